use Rattle.std.proofs.Common.{◌≡◌, ◌*◌, ◌++◌, take, drop}
use Rattle.rows.specs.Views.{rows_of}
use Rattle.stores.specs.Keys.{trace_words}
use Rattle.stores.proofs.key.write_traces.Given as goal

abbrev pub invariant-loop-i : goal.invariant-loop-i
invariant-loop-i g l = l.words ≡ trace_words g.B.Bank.meaning l.sets (rows_of (take l.i l.rows)) ++ drop (2 * l.i) l.initial.words
