-- What sheets and tables have to do with each other.
use Rattle.std.specs.Prelude.{◌≡◌, ℕ, ◌+◌, List, [], ◌∷◌, ◌++◌, length}
use Rattle.rows.specs.Rows.{RowData, Meaning}
use Rattle.rows.specs.Laws.{Laws}
use Rattle.rows.specs.Bytes.{Bytes, encode}
use Rattle.search.specs.Calls.{Call, Answer, fresh_table}
use Rattle.search.specs.Calls.Call.{declare, post}
use Rattle.search.specs.Calls.Answer.{done}
use Rattle.rows.specs.Placed.{AllAccepted}
use Rattle.search.specs.Results.{Limited}
use Rattle.sheets.specs.declared.refusal.Layer.{Layer}
use Rattle.sheets.specs.Sheets.{records, sheet}
use Rattle.sheets.specs.Reading.{RecordReading, read_record, read_sheet}
use Rattle.sheets.specs.Reading.SheetReading.{accepted, faulty}

-- voices and rows that a table can have: within its limits, and the bank accepts each row
pub record Holdable (m : Meaning) (voices : List ℕ) (rows : List RowData) : Type 0 where
  pub limited : Limited m (fresh_table voices rows)
  pub all_accepted : AllAccepted m rows (length voices)

-- The first record that is faulty: those before it are the records of voices and rows that a table
-- can have, and this one is judged after them, under the smallest number that fits.
pub record FirstFault (m : Meaning) (bs : List ℕ) (number place : ℕ) (layer : Layer) : Type 0 where
  pub voices : List ℕ
  pub rows : List RowData
  pub rest : List ℕ
  pub offset : ℕ
  pub holdable : Holdable m voices rows
  pub before : bs ≡ records voices rows ++ rest
  pub here : read_record m voices rows rest ≡ RecordReading.reads_fault number offset layer
  pub placed : place ≡ length (records voices rows) + offset

-- One sheet a table: the sheet of voices and rows that a table can have is accepted, and gives them
-- back; an accepted sheet is the one of its voices and rows, which a table can have; and every
-- other sheet is refused at its first fault.
pub record SheetLawsHold (m : Meaning) : Type 0 where
  pub saved_loads : (voices : List ℕ) (rows : List RowData) → Holdable m voices rows
      → read_sheet m (sheet voices rows) ≡ accepted voices rows
  pub loaded_saves : (bs : List ℕ) → Bytes bs → (voices : List ℕ) (rows : List RowData)
      → read_sheet m bs ≡ accepted voices rows
      → Holdable m voices rows × (sheet voices rows ≡ bs)
  pub first_fault : (bs : List ℕ) → Bytes bs → (number place : ℕ) (layer : Layer)
      → read_sheet m bs ≡ faulty number place layer
      → FirstFault m bs number place layer

abbrev pub OneSheetATable : Type 0
OneSheetATable = (m : Meaning) → Laws m → SheetLawsHold m

-- ---- the calls that a Load stands for, with their answers, newest first, after those of h

-- a Declare for each voice, a Post for each row
abbrev pub declared_after : List (Call × Answer) → List ℕ → List (Call × Answer)
declared_after h [] = h
declared_after h (s ∷ voices) = declared_after ((declare s, done) ∷ h) voices

abbrev pub posted_after : List (Call × Answer) → List RowData → List (Call × Answer)
posted_after h [] = h
posted_after h (r ∷ rows) = posted_after ((post (encode r), done) ∷ h) rows
