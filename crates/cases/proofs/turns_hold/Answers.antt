use Rattle.cases.proofs.TurnsComputed.{turns_hold}
use Rattle.cases.proofs.turns_hold.Goals as goal

pub returns : goal.returns
returns c = turns_hold
