use Rattle.std.proofs.Common.{◌≡◌, suc, ◌-◌, drop}
use Rattle.rows.specs.Placed.{Ready}
use Rattle.search.specs.Propagation.{rounds, propagated}
use Rattle.search.specs.Results.{Stable}
use Rattle.rows.specs.Views.{rows_of}
use Rattle.search.proofs.propagation.propagate.Given as goal

abbrev pub invariant-loop : goal.invariant-loop
invariant-loop g l =
    Ready g.B.Bank.meaning (rows_of l.rows) l.initial.sets
    → (rounds g.B.Bank.meaning (rows_of l.rows) (suc (l.end - l.counter)) l.sets ≡ propagated g.B.Bank.meaning (rows_of l.rows) l.initial.sets)
    × Stable g.B.Bank.meaning (rows_of (drop l.stable l.rows)) l.sets
    × Ready g.B.Bank.meaning (rows_of l.rows) l.sets
