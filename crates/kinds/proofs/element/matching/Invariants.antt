use Rattle.kinds.proofs.EntrySteps.{Matched}
use Rattle.kinds.proofs.element.matching.Given as goal

abbrev pub invariant-loop-place : goal.invariant-loop-place
invariant-loop-place l = Matched l.entries l.indices l.results l.left l.kept l.named

abbrev pub decreases-loop-place : goal.decreases-loop-place
decreases-loop-place l = l.left
