use Rattle.std.proofs.Common.{◌≡◌, take}
use Rattle.sets.specs.Placings.{some_empty}
use Rattle.search.proofs.propagation.has_empty.Given as goal

abbrev pub invariant-loop-s : goal.invariant-loop-s
invariant-loop-s l = l.found ≡ some_empty (take l.s-index l.sets)
