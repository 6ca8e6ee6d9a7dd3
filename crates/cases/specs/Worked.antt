-- The worked cases, all together: those of single turns, traces and verdicts, and those of whole
-- searches.
use Rattle.cases.specs.Turns.{TurnsHold}
use Rattle.cases.specs.Searches.{SearchesHold}

pub record WorkedHold : Type 0 where
  pub turns : TurnsHold
  pub searches : SearchesHold
