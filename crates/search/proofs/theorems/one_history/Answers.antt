use Rattle.search.proofs.OutcomeFacts.{one_history}
use Rattle.search.proofs.theorems.one_history.Goals as goal

pub returns : goal.returns
returns g c = one_history g.S.Behaves.behaviour
