use Rattle.cases.proofs.CallsComputed.{limits_reached}
use Rattle.cases.proofs.limits_reached.Goals as goal

pub returns : goal.returns
returns c = limits_reached
