use Rattle.std.proofs.Common.{◌≡◌, take}
use Rattle.rows.specs.Views.{row_of}
use Rattle.sets.specs.Placings.{changed}
use Rattle.rows.specs.Shared.{cuts}
use Rattle.kinds.specs.Sums.{within}
use Rattle.kinds.proofs.linear.LinearKind.turn.Given as goal

abbrev pub invariant-loop-i : goal.invariant-loop-i
invariant-loop-i l =
    (l.sets ≡ cuts (within (row_of l.row) l.initial.sets) (take l.i (row_of l.row).members) l.initial.sets) × (l.took ≡ changed l.sets l.initial.sets)
