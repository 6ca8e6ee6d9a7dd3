use Rattle.search.proofs.OverEvery.{tables_given}
use Rattle.search.proofs.theorems.tables_given.Goals as goal

pub returns : goal.returns
returns g c = tables_given g.S.Behaves.behaviour
