use Rattle.std.proofs.Common.{◌≡◌, take}
use Rattle.sets.specs.Placings.{changed}
use Rattle.kinds.specs.Differing.{values_taken}
use Rattle.kinds.proofs.all_different.AllDifferentKind.turn.Given as goal

abbrev pub invariant-loop-m : goal.invariant-loop-m
invariant-loop-m l =
    (l.sets ≡ values_taken l.members (take l.m-index l.members) l.initial.sets)
    × (l.took ≡ changed l.sets l.initial.sets)
