use Rattle.std.proofs.Common.{◌≡◌, false, drop, is_some}
use Rattle.rows.specs.Views.{rows_of}
use Rattle.rows.specs.Placed.{Ready}
use Rattle.search.specs.Propagation.{round, round_from}
use Rattle.search.specs.Results.{Stable}
use Rattle.search.specs.Rounds.{due_of, is_emptied}
use Rattle.search.proofs.StableRows.{Going}
use Rattle.search.proofs.propagation.run_round.Given as goal

abbrev pub invariant-loop-i : goal.invariant-loop-i
invariant-loop-i g l =
    Ready g.B.Bank.meaning (rows_of l.rows) l.initial.sets → Stable g.B.Bank.meaning (rows_of (drop l.stable l.rows)) l.initial.sets
    → (round_from g.B.Bank.meaning (is_some (due_of l.next)) (rows_of (drop l.i l.rows)) l.sets ≡ round g.B.Bank.meaning (rows_of l.rows) l.initial.sets)
    × Going g.B.Bank.meaning l.rows l.stable l.i l.sets (due_of l.next) l.end
    × Ready g.B.Bank.meaning (rows_of l.rows) l.sets
    × (is_emptied l.next ≡ false)
