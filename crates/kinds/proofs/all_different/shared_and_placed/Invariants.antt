use Rattle.std.proofs.Common.{◌≡◌, take}
use Rattle.kinds.specs.Differing.{fixed_values}
use Rattle.kinds.proofs.Sharing.{Seen}
use Rattle.kinds.proofs.all_different.shared_and_placed.Given as goal

abbrev pub invariant-loop-m : goal.invariant-loop-m
invariant-loop-m l = (l.placed ≡ fixed_values (take l.m-index l.members) l.sets) × Seen (take l.m-index l.members) l.sets l.once l.shared
