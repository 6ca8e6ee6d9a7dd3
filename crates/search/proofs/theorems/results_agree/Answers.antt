use Rattle.search.proofs.OverEvery.{results_agree}
use Rattle.search.proofs.theorems.results_agree.Goals as goal

pub returns : goal.returns
returns g c = results_agree g.S.Behaves.behaviour g.T.Behaves.behaviour
