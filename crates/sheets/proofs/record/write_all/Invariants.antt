use Rattle.std.proofs.Common.{take, flat_map}
use Rattle.rows.specs.Written.{Wrote}
use Rattle.sheets.proofs.record.write_all.Given as goal

abbrev pub invariant-loop-item : goal.invariant-loop-item
invariant-loop-item g l = Wrote (flat_map g.T.Record.bytes (take l.item-index l.items)) l.initial.writer l.writer
