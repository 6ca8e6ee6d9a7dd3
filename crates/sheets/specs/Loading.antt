-- What Load returns and leaves, and how it extends every history of calls.
use Rattle.std.specs.Prelude.{◌≡◌, ℕ, List, [], ◌∷◌, ◌++◌, length, Some, None, Ok, Err, Option, Result}
use Rattle.rows.specs.declared.bank.Bank as bank
use Rattle.rows.specs.Rows.{RowData, Meaning}
use Rattle.rows.specs.Bytes.{decode}
use Rattle.stores.specs.declared.store.Store as store
use Rattle.stores.specs.Behaviours.{Behaviour}
use Rattle.search.specs.Calls.{TableData, Call, Answer, fresh_table, empty}
use Rattle.search.specs.Calls.Call.{wipe}
use Rattle.search.specs.Calls.Answer.{done}
use Rattle.search.specs.Histories.{History, LeadsTo}
use Rattle.search.specs.Results.{Invariant}
use Rattle.table.specs.declared.table.Table as tables
use Rattle.table.specs.Shown.{model, store_in}
use Rattle.sheets.specs.declared.refusal.RecordRefusal.{RecordRefusal}
use Rattle.sheets.specs.declared.refusal.Layer.{Layer}
use Rattle.sheets.specs.declared.refusal.SheetRefusal.{SheetRefusal}
use Rattle.sheets.specs.Causes.{cause_number, cause_layer, cause_offset}
use Rattle.sheets.specs.Sheets.{sheet}
use Rattle.sheets.specs.Reading.{RecordReading, SheetReading, read_sheet}
use Rattle.sheets.specs.Reading.RecordReading.{reads_end, reads_voice, reads_row, reads_fault}
use Rattle.sheets.specs.Reading.SheetReading.{accepted, faulty}
use Rattle.sheets.specs.Laws.{FirstFault, declared_after, posted_after}

-- ---- answers

-- accepted, or refused: under which number, at which place and by which layer
pub data LoadAnswer : Type 0 where
  sheet_loaded : LoadAnswer
  sheet_fault : ℕ → ℕ → Layer → LoadAnswer

-- the code's answer
abbrev pub load_answer : Result Unit SheetRefusal → LoadAnswer
load_answer (Ok x) = sheet_loaded
load_answer (Err f) = sheet_fault (cause_number f.cause) f.place (cause_layer f.cause)

-- the answer that a sheet must have
abbrev pub reading_answer : SheetReading → LoadAnswer
reading_answer (accepted voices rows) = sheet_loaded
reading_answer (faulty number place layer) = sheet_fault number place layer

-- ---- what a Load leaves

-- the table that a Load leaves: its search has not begun; after a refused one it is empty
abbrev pub table_after : SheetReading → TableData
table_after (accepted voices rows) = fresh_table voices rows
table_after (faulty n place layer) = empty

-- After the calls h, over a store that was in the state g when the table was made, the records of a
-- sheet that is read as this have led to the table u and the state r: by its Declares and Posts,
-- all accepted; where it is refused, by those of the records before the first fault, and a Wipe. No
-- key is lost then, since each of these calls empties the store.
abbrev pub FillHistory : (b : Behaviour) (m : Meaning) (g : b.State) (h : List (Call × Answer))
    (bytes : List ℕ) → SheetReading → TableData → b.State → Type 0
FillHistory b m g h bytes (accepted voices rows) u r =
    LeadsTo b m g (posted_after (declared_after h voices) rows) u r 0
FillHistory b m g h bytes (faulty number place layer) u r =
    (first : FirstFault m bytes number place layer)
    × LeadsTo b m g ((wipe, done) ∷ posted_after (declared_after h first.voices) first.rows) u r 0

-- a Load is a Wipe, and then these
abbrev pub LoadHistory : (b : Behaviour) (m : Meaning) (g : b.State) (h : List (Call × Answer))
    (bytes : List ℕ) → SheetReading → TableData → b.State → Type 0
LoadHistory b m g h = FillHistory b m g ((wipe, done) ∷ h)

-- Whatever the table was, over its store in the state s: it is that of the sheet's voices and rows,
-- or an empty one, its search not begun; and it is with its store as if it had been made over that
-- store, and then so filled.
pub record LoadLeaves (b : Behaviour) (m : Meaning) (bytes : List ℕ) (s : b.State)
    (u : TableData) (r : b.State) : Type 0 where
  pub table : u ≡ table_after (read_sheet m bytes)
  pub history : FillHistory b m s [] bytes (read_sheet m bytes) u r
  pub invariant : Invariant m 0 u (b.view r)

-- Whatever the calls were that led to an empty table and the state s, in which no key was lost: so
-- it is after the records; and what holds after every history holds.
pub record FillExtends (b : Behaviour) (m : Meaning) (s : b.State) (bytes : List ℕ) (u : TableData)
    (r : b.State) : Type 0 where
  pub history : (g : b.State) (h : List (Call × Answer)) → LeadsTo b m g h empty s 0
      → FillHistory b m g h bytes (read_sheet m bytes) u r
  pub invariant : (g : b.State) (h : List (Call × Answer)) → LeadsTo b m g h empty s 0
      → Invariant m 0 u (b.view r)

-- Whatever the calls were that led to the table t and the state s: so it is then; and what holds
-- after every history holds.
pub record LoadExtends (b : Behaviour) (m : Meaning) (t : TableData) (s : b.State) (bytes : List ℕ)
    (u : TableData) (r : b.State) : Type 0 where
  pub history : (g : b.State) (h : List (Call × Answer)) → History b m g h t s
      → LoadHistory b m g h bytes (read_sheet m bytes) u r
  pub invariant : (g : b.State) (h : List (Call × Answer)) → History b m g h t s
      → Invariant m 0 u (b.view r)

-- `saved` is the sheet of the table then: where the bytes are accepted, it is these bytes
abbrev pub LoadBack : SheetReading → List ℕ → List ℕ → Type 0
LoadBack (accepted voices rows) bytes saved = saved ≡ bytes
LoadBack (faulty number place layer) bytes saved = Unit {0}

-- A new table over a store that was in this state, and the answer of its Load: the one that the
-- sheet must have, the table as a Load leaves it, and, where the sheet was accepted, the bytes as
-- the sheet of that table.
module _ {B S : Type 0} {b : bank.Ghosts B} {s : store.Ghosts S} where
  pub record LoadsNew (given : s.behaviour.State) (bytes : List ℕ) (t : tables.Table B S b s)
      (answer : Result Unit SheetRefusal) : Type 0 where
    pub value : load_answer answer ≡ reading_answer (read_sheet b.meaning bytes)
    pub leaves : LoadLeaves s.behaviour b.meaning bytes given (model t) (store_in t)
    pub back : LoadBack (read_sheet b.meaning bytes) bytes (sheet (model t).voices (model t).rows)

-- ---- one record

-- what reading a record returns: that the sheet ends, the record's length, or a fault
pub data RecordAnswer : Type 0 where
  sheet_end : RecordAnswer
  record_length : ℕ → RecordAnswer
  record_fault : ℕ → ℕ → Layer → RecordAnswer

abbrev pub record_answer : Result (Option ℕ) RecordRefusal → RecordAnswer
record_answer (Ok None) = sheet_end
record_answer (Ok (Some n)) = record_length n
record_answer (Err c) = record_fault (cause_number c) (cause_offset c) (cause_layer c)

abbrev pub reading_record_answer : RecordReading → RecordAnswer
reading_record_answer reads_end = sheet_end
reading_record_answer (reads_voice s) = record_length 9
reading_record_answer (reads_row r) = record_length (length r)
reading_record_answer (reads_fault number offset layer) = record_fault number offset layer

-- the table after a record, where it had these voices and rows
abbrev pub record_table : Meaning → List ℕ → List RowData → RecordReading → TableData
record_table m voices rows reads_end = fresh_table voices rows
record_table m voices rows (reads_voice s) = fresh_table (voices ++ (s ∷ [])) rows
record_table m voices rows (reads_row r) = fresh_table voices (rows ++ (decode m r ∷ []))
record_table m voices rows (reads_fault number offset layer) = fresh_table voices rows

-- a table whose search has not begun
abbrev pub Unsearched : TableData → Type 0
Unsearched t = t ≡ fresh_table t.voices t.rows

-- the store after a record: an accepted Declare or Post empties it
abbrev pub RecordStored : (b : Behaviour) → RecordReading → b.State → b.State → Type 0
RecordStored b reads_end s r = r ≡ s
RecordStored b (reads_voice x) s r = b.empties s r
RecordStored b (reads_row bs) s r = b.empties s r
RecordStored b (reads_fault number offset layer) s r = r ≡ s

-- a record is read: the answer, and the table and the store then
pub record RecordRead (b : Behaviour) (m : Meaning) (t : TableData) (s : b.State)
    (i : RecordReading)
    (res : Result (Option ℕ) RecordRefusal) (u : TableData) (r : b.State) : Type 0 where
  pub answer : record_answer res ≡ reading_record_answer i
  pub table : u ≡ record_table m t.voices t.rows i
  pub store : RecordStored b i s r

-- Whatever the calls were that led to an empty table and the state s, in which no key was lost:
-- with a Declare for each of these voices and a Post for each of these rows, all accepted, they
-- lead to a table with these, its search not begun, and the state r, in which no key was lost.
abbrev pub Fills : (b : Behaviour) (m : Meaning) (s : b.State)
    (voices : List ℕ) (rows : List RowData) → b.State → Type 0
Fills b m s voices rows r =
    (g : b.State) (h : List (Call × Answer)) → LeadsTo b m g h empty s 0
    → LeadsTo b m g (posted_after (declared_after h voices) rows) (fresh_table voices rows) r 0

-- all records are read, up to the sheet's end or its first fault
pub data RecordsRead (b : Behaviour) (m : Meaning) (bytes : List ℕ) (s : b.State)
    (u : TableData) (r : b.State) : SheetReading → Result Unit SheetRefusal → Type 0 where
  ended : (voices : List ℕ) (rows : List RowData) → u ≡ fresh_table voices rows
      → Fills b m s voices rows r → RecordsRead b m bytes s u r (accepted voices rows) (Ok tt)
  faulted : (cause : RecordRefusal) (place : ℕ)
      (first : FirstFault m bytes (cause_number cause) place (cause_layer cause))
      → u ≡ fresh_table first.voices first.rows
      → Fills b m s first.voices first.rows r
      → RecordsRead b m bytes s u r (faulty (cause_number cause) place (cause_layer cause))
      (Err (record { cause = cause; place = place }))
