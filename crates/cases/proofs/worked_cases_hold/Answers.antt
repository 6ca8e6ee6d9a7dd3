use Rattle.cases.proofs.TurnsComputed.{turns_hold}
use Rattle.cases.proofs.CallsComputed.{searches_hold}
use Rattle.cases.proofs.worked_cases_hold.Goals as goal

pub returns : goal.returns
returns c = record { turns = turns_hold; searches = searches_hold }
