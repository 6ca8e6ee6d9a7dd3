use Rattle.std.proofs.Common.{◌≡◌, length}
use Rattle.stores.specs.Shelves.{hash_from, hash_of}
use Rattle.stores.proofs.words.hash_words.Given as goal

abbrev pub invariant-loop-left : goal.invariant-loop-left
invariant-loop-left l = hash_from l.hash l.left ≡ hash_of l.words

abbrev pub decreases-loop-left : goal.decreases-loop-left
decreases-loop-left l = length l.left
