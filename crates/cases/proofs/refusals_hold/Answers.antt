use Rattle.cases.proofs.CallsComputed.{refusals_hold}
use Rattle.cases.proofs.refusals_hold.Goals as goal

pub returns : goal.returns
returns c = refusals_hold
