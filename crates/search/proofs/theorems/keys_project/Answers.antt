use Rattle.search.proofs.KeyFacts.{keys_project}
use Rattle.search.proofs.theorems.keys_project.Goals as goal

pub returns : goal.returns
returns c = keys_project
