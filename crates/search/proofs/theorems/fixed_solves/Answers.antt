use Rattle.search.proofs.PropagationFacts.{fixed_solves}
use Rattle.search.proofs.theorems.fixed_solves.Goals as goal

pub returns : goal.returns
returns c = fixed_solves
