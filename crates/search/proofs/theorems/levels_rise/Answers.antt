use Rattle.search.proofs.OverEvery.{levels_rise}
use Rattle.search.proofs.theorems.levels_rise.Goals as goal

pub returns : goal.returns
returns g c = levels_rise g.S.Behaves.behaviour
