use Rattle.search.proofs.OverEvery.{invariant_holds}
use Rattle.search.proofs.theorems.invariant_holds.Goals as goal

pub returns : goal.returns
returns g c = invariant_holds g.S.Behaves.behaviour
