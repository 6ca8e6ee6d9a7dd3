use Rattle.std.proofs.Common.{length}
use Rattle.table.specs.Shown.{model, store_in}
use Rattle.sheets.proofs.Steps.{Left}
use Rattle.sheets.proofs.load.read_records.Given as goal

abbrev pub invariant-loop-length : goal.invariant-loop-length
invariant-loop-length g l = Left g.S.Store.behaviour g.B.Bank.meaning l.bytes (store_in l.initial.table) (model l.table) (store_in l.table) l.rest

abbrev pub decreases-loop-length : goal.decreases-loop-length
decreases-loop-length g l = length l.rest
