use Rattle.kinds.proofs.Letters.{by_letter}
use Rattle.kinds.proofs.four_kinds_hold.Goals as goal

pub returns-clause-letters : goal.returns-clause-letters
returns-clause-letters c = by_letter
