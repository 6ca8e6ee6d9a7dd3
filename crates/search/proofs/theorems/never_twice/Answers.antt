use Rattle.search.proofs.OverEvery.{never_twice}
use Rattle.search.proofs.theorems.never_twice.Goals as goal

pub returns : goal.returns
returns g c = never_twice g.S.Behaves.behaviour
