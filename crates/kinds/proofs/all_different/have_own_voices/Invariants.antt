use Rattle.std.proofs.Common.{◌≡◌, map, length}
use Rattle.rows.specs.Shared.{distinct}
use Rattle.kinds.proofs.all_different.have_own_voices.Given as goal

abbrev pub invariant-loop-left : goal.invariant-loop-left
invariant-loop-left l = distinct (map (λ m. m.voice) l.left) ≡ distinct (map (λ m. m.voice) l.members)

abbrev pub decreases-loop-left : goal.decreases-loop-left
decreases-loop-left l = length l.left
