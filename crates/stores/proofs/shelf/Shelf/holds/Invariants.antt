use Rattle.stores.specs.Shown.{used_words}
use Rattle.stores.proofs.Shelving.{Walk}
use Rattle.stores.proofs.shelf.Shelf.holds.Given as goal

abbrev pub invariant-loop-at : goal.invariant-loop-at
invariant-loop-at l = Walk (used_words l.self) l.key l.at

abbrev pub decreases-loop-at : goal.decreases-loop-at
decreases-loop-at l = l.at
