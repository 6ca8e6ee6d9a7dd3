-- The whole job of the program, by its calls: a sheet is loaded into a new table, solved by one
-- Solve, and reported.
use Rattle.std.specs.Prelude.{◌≡◌, ℕ, List, [], ◌∷◌, Result}
use Rattle.rows.specs.Rows.{Meaning}
use Rattle.stores.specs.Behaviours.{Behaviour}
use Rattle.rows.specs.declared.limits.TheConstants.{MOST_BUDGET}
use Rattle.search.specs.Calls.{TableData, status_answer}
use Rattle.search.specs.Calls.Call.{solve}
use Rattle.search.specs.Histories.{LeadsTo}
use Rattle.search.specs.Results.{Invariant}
use Rattle.table.specs.declared.outcome.Outcome.{Outcome}
use Rattle.sheets.specs.declared.refusal.SheetRefusal.{SheetRefusal}
use Rattle.sheets.specs.Reading.{SheetReading, read_sheet}
use Rattle.sheets.specs.Reading.SheetReading.{accepted, faulty}
use Rattle.sheets.specs.Laws.{declared_after, posted_after}
use Rattle.sheets.specs.Loading.{load_answer, reading_answer, FillHistory, LoadLeaves}
use Rattle.job.specs.Promised.{Promised}
use Rattle.job.specs.Texts.{report_text, sheet_text}

-- The calls that led to the table t and the state s, in which the store has lost so many keys, once
-- the table was made: of an accepted sheet its Declares and Posts, and a Solve with the largest
-- budget; of a refused one those of the records before the first fault, and a Wipe.
abbrev pub JobHistory : (b : Behaviour) (m : Meaning) (given : b.State) (sheet : List ℕ)
    → SheetReading → TableData → b.State → ℕ → Type 0
JobHistory b m given sheet (accepted voices rows) t s lost =
    let calls =
    (solve MOST_BUDGET, status_answer t.status) ∷ posted_after (declared_after [] voices) rows in
    LeadsTo b m given calls t s lost
JobHistory b m given sheet (faulty number place layer) t s lost =
    FillHistory b m given [] sheet (faulty number place layer) t s × (lost ≡ 0)

-- A sheet that is read as this was loaded, and solved where it was accepted. That led to the table
-- t and the state s and came to this: its history, what is reported, and that it is as promised.
pub record JobDone (b : Behaviour) (m : Meaning) (given : b.State) (sheet : List ℕ)
    (reading : SheetReading) (come_to : Result Outcome SheetRefusal) (t : TableData)
    (s : b.State) : Type 0 where
  pub lost : ℕ
  pub history : JobHistory b m given sheet reading t s lost
  pub invariant : Invariant m lost t (b.view s)
  pub reported : sheet_text come_to t ≡ report_text (reading_answer reading) t
  pub promised : Promised m reading (sheet_text come_to t)

-- A table that a Load left so with this answer, whatever the sheet and the store that was given, is
-- taken to the table u and the state r: then the sheet is loaded and solved.
abbrev pub SolvesLoaded : (b : Behaviour) (m : Meaning) → Result Unit SheetRefusal → TableData
    → b.State
    → Result Outcome SheetRefusal → TableData → b.State → Type 0
SolvesLoaded b m answer t s come_to u r =
    (given : b.State) (sheet : List ℕ) → load_answer answer ≡ reading_answer (read_sheet m sheet)
    → LoadLeaves b m sheet given t s → JobDone b m given sheet (read_sheet m sheet) come_to u r

-- the text is what the job writes of this sheet, over a store with the behaviour b that was given
-- in this state
pub record Planned (b : Behaviour) (m : Meaning) (given : b.State)
    (sheet text : List ℕ) : Type 0 where
  -- the table and the state that the calls led to, how many keys the store has lost, and what holds
  -- after every history
  pub table : TableData
  pub state : b.State
  pub lost : ℕ
  pub history : JobHistory b m given sheet (read_sheet m sheet) table state lost
  pub invariant : Invariant m lost table (b.view state)
  -- the report of that table, or of the fault
  pub reported : text ≡ report_text (reading_answer (read_sheet m sheet)) table
