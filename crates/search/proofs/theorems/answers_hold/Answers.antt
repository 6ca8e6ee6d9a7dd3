use Rattle.search.proofs.OverEvery.{answers_hold}
use Rattle.search.proofs.theorems.answers_hold.Goals as goal

pub returns : goal.returns
returns g c = answers_hold g.S.Behaves.behaviour
