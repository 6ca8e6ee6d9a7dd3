use Rattle.std.proofs.Common.{◌≡◌, take, false}
use Rattle.sets.specs.Placings.{changed}
use Rattle.rows.specs.Shared.{cuts}
use Rattle.kinds.proofs.linear.empty_all.Given as goal

abbrev pub invariant-loop-m : goal.invariant-loop-m
invariant-loop-m l = (l.sets ≡ cuts (λ m v. false) (take l.m-index l.members) l.initial.sets) × (l.took ≡ changed l.sets l.initial.sets)
