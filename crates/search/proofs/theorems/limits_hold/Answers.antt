use Rattle.search.proofs.OverEvery.{limits_hold}
use Rattle.search.proofs.theorems.limits_hold.Goals as goal

pub returns : goal.returns
returns g c = limits_hold g.S.Behaves.behaviour
