use Rattle.std.proofs.Common.{◌≡◌, take}
use Rattle.sets.specs.Placings.{changed}
use Rattle.rows.specs.Shared.{at, cuts}
use Rattle.kinds.specs.Differing.{may_stay}
use Rattle.kinds.proofs.all_different.take_from_others.Given as goal

abbrev pub invariant-loop-m : goal.invariant-loop-m
invariant-loop-m l =
    (l.sets ≡ cuts (may_stay l.taker (at l.initial.sets l.taker)) (take l.m-index l.members) l.initial.sets)
    × (l.lost ≡ changed l.sets l.initial.sets)
