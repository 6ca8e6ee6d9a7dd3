use Rattle.search.proofs.OverEvery.{solve_keeps_budget}
use Rattle.search.proofs.theorems.solve_keeps_budget.Goals as goal

pub returns : goal.returns
returns g c = solve_keeps_budget g.S.Behaves.behaviour
