use Rattle.search.proofs.OverEvery.{branches_lowest}
use Rattle.search.proofs.theorems.branches_lowest.Goals as goal

pub returns : goal.returns
returns g c = branches_lowest g.S.Behaves.behaviour
