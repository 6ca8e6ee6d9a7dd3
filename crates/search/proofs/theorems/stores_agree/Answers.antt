use Rattle.search.proofs.OverEvery.{stores_agree}
use Rattle.search.proofs.theorems.stores_agree.Goals as goal

pub returns : goal.returns
returns g c = stores_agree g.S.Behaves.behaviour g.T.Behaves.behaviour
