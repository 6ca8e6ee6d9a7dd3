use Rattle.std.proofs.Common.{◌≡◌, length}
use Rattle.rows.specs.Bytes.{marked}
use Rattle.rows.proofs.reading.are_marked.Given as goal

abbrev pub invariant-loop-left : goal.invariant-loop-left
invariant-loop-left l = marked l.left ≡ marked l.bytes

abbrev pub decreases-loop-left : goal.decreases-loop-left
decreases-loop-left l = length l.left
