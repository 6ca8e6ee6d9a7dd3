use Rattle.search.proofs.OutcomeFacts.{one_outcome}
use Rattle.search.proofs.theorems.one_outcome.Goals as goal

pub returns : goal.returns
returns g c = one_outcome g.S.Behaves.behaviour
