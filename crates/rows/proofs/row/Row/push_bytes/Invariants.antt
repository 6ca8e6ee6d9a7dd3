use Rattle.std.proofs.Common.{◌≡◌, drop}
use Rattle.rows.specs.Views.{row_of}
use Rattle.rows.specs.Reading.{with_bytes}
use Rattle.rows.proofs.row.Row.push_bytes.Given as goal

abbrev pub invariant-loop-byte : goal.invariant-loop-byte
invariant-loop-byte l = with_bytes (row_of l.self) (drop l.byte-index l.bytes) ≡ with_bytes (row_of l.initial.self) l.bytes
