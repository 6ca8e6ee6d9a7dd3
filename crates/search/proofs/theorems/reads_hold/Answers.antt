use Rattle.search.proofs.OverEvery.{reads_hold}
use Rattle.search.proofs.theorems.reads_hold.Goals as goal

pub returns : goal.returns
returns g c = reads_hold g.S.Behaves.behaviour
