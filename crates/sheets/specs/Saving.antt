-- What Save returns and writes.
use Rattle.rows.specs.declared.bank.Bank as bank
use Rattle.stores.specs.declared.store.Store as store
use Rattle.std.specs.Prelude.{◌≡◌, ℕ, cond, List, ◌++◌, length, drop, Ok, Err, Result, nat_le}
use Rattle.rows.specs.Rows.{Meaning}
use Rattle.stores.specs.Behaviours.{Behaviour}
use Rattle.search.specs.Calls as calls
use Rattle.search.specs.Calls.{Call, Answer}
use Rattle.search.specs.Histories.{History}
use Rattle.table.specs.declared.refusal.Refusal.{Refusal}
use Rattle.table.specs.declared.refusal.Refusal.TheVariants.{ShortBuffer}
use Rattle.table.specs.declared.table.Table.{Table}
use Rattle.table.specs.Shown.{model}
use Rattle.sheets.specs.Sheets.{sheet}
use Rattle.sheets.specs.Reading.{read_sheet}
use Rattle.sheets.specs.Reading.SheetReading.{accepted}

module _ {B S : Type 0} {b : bank.Ghosts B} {s : store.Ghosts S} where
  -- the sheet of the table's voices and rows
  abbrev pub sheet_of : Table B S b s → List ℕ
  sheet_of t = sheet (model t).voices (model t).rows

-- Whatever the calls were that led to the table t and the state v: its sheet is accepted by Load,
-- and gives back exactly its voices and rows.
abbrev pub LoadsAgain : (b : Behaviour) → Meaning → calls.TableData → b.State → Type 0
LoadsAgain b m t v = (g : b.State) (h : List (Call × Answer)) → History b m g h t v
    → read_sheet m (sheet t.voices t.rows) ≡ accepted t.voices t.rows

-- Bytes written at the front of a buffer: how many, or that it is too short; and the buffer then,
-- as it was beyond them, or all of it as it was.
abbrev pub written_answer : List ℕ → List ℕ → Result ℕ Refusal
written_answer bytes buffer =
    cond (nat_le (length bytes) (length buffer)) (Ok (length bytes)) (Err ShortBuffer)

abbrev pub buffer_after : List ℕ → List ℕ → List ℕ
buffer_after bytes buffer =
    cond (nat_le (length bytes) (length buffer)) (bytes ++ drop (length bytes) buffer) buffer
