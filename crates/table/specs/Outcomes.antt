-- The names of what a search can come to.
use Rattle.std.specs.Prelude.{ℕ, List, codes}
use Rattle.table.specs.declared.outcome.Outcome.{Outcome}
use Rattle.table.specs.declared.outcome.Outcome.TheVariants.{Stopped, Found, None}

-- as a report writes it
abbrev pub outcome_name : Outcome → List ℕ
outcome_name Stopped = codes "stopped"
outcome_name Found = codes "found"
outcome_name None = codes "none"
