-- What the report of a sheet promises, by its voices and rows alone.
use Rattle.std.specs.Prelude.{◌≡◌, ℕ, List, [], codes}
use Rattle.rows.specs.Rows.{RowData, Meaning}
use Rattle.rows.specs.declared.limits.TheConstants.{MOST_BUDGET}
use Rattle.rows.specs.Placed.{Least, Lawless}
use Rattle.sheets.specs.Reading.{SheetReading}
use Rattle.sheets.specs.Reading.SheetReading.{accepted, faulty}
use Rattle.job.specs.Texts.{refused_line, outcome_text}

-- The report of these voices and rows: `found` with the least lawful placing; `none`, where there
-- is no lawful placing; or `stopped`, which says nothing of the placings. It has 1,000,000 in its
-- line `opened`; that so many nodes were opened, and the search is not over, is said by `Planned`.
pub data Reports (m : Meaning) (voices : List ℕ) (rows : List RowData) : List ℕ → Type 0 where
  reports_found : (p : List ℕ) (opened exhausted : ℕ) → Least m voices rows p
      → Reports m voices rows (outcome_text (codes "found") opened exhausted p)
  reports_none : (opened exhausted : ℕ) → Lawless m voices rows
      → Reports m voices rows (outcome_text (codes "none") opened exhausted [])
  reports_stopped : (exhausted : ℕ)
      → Reports m voices rows (outcome_text (codes "stopped") MOST_BUDGET exhausted [])

-- an accepted sheet is reported so; a refused one by its first fault
abbrev pub Promised : Meaning → SheetReading → List ℕ → Type 0
Promised m (accepted voices rows) text = Reports m voices rows text
Promised m (faulty number place layer) text = text ≡ refused_line number place layer
