-- The law of sheets, and what a Load leaves after any calls.
use Rattle.std.proofs.Common.{true, false, is_err, Result, ◌≡◌, ℕ, List, [], ◌∷◌, sym, refl, ap, ◌∙◌, subst, subst₂, arith}
use Rattle.rows.specs.Rows.{Meaning}
use Rattle.rows.specs.Laws.{Laws}
use Rattle.rows.specs.Bytes.{Bytes}
use Rattle.stores.specs.Behaviours.{Behaviour}
use Rattle.search.specs.Calls.{TableData, empty, fresh_table, Call, Answer, Does}
use Rattle.search.specs.Calls.Call.{wipe}
use Rattle.search.specs.Calls.Answer.{done}
use Rattle.search.specs.Histories.{History, LeadsTo}
use Rattle.search.specs.Results.{Limited, Invariant}
use Rattle.search.proofs.AnyStore.{history_any}
use Rattle.search.proofs.HistoryFacts.{fit}
use Rattle.search.proofs.OverEvery.{invariant_holds, limits_hold}
use Rattle.sheets.specs.declared.refusal.SheetRefusal.{SheetRefusal}
use Rattle.sheets.specs.Sheets.{sheet}
use Rattle.sheets.specs.Reading.{SheetReading, read_sheet}
use Rattle.sheets.specs.Reading.SheetReading.{accepted, faulty}
use Rattle.sheets.specs.Laws.{SheetLawsHold, declared_after, posted_after}
use Rattle.sheets.specs.Loading.{load_answer, reading_answer, table_after, FillHistory, FillExtends, LoadLeaves, LoadExtends, LoadBack, RecordsRead}
use Rattle.sheets.proofs.Loaded.{ReadRight, read_right}
use Rattle.sheets.proofs.Saved.{saved_loads}

pub sheet_laws_hold : (m : Meaning) → Laws m → SheetLawsHold m
sheet_laws_hold m L = record {
  saved_loads = saved_loads m L;
  loaded_saves = λ bs b voices rows e. subst (ReadRight m L bs) e (read_right m L bs b);
  first_fault = λ bs b number place layer e. subst (ReadRight m L bs) e (read_right m L bs b);
}

-- ---- after any calls

-- From an empty table and the state w: the records were read, to the table x and the state y; and where the sheet was refused, a Wipe, to the table u and the state r.
pub record Filled (b : Behaviour) (m : Meaning) (bs : List ℕ) (w : b.State) (x : TableData) (y : b.State) (res : Result (Unit {0}) SheetRefusal) (u : TableData) (r : b.State) : Type 0 where
  pub read : RecordsRead b m bs w x y (read_sheet m bs) res
  pub refused : is_err res ≡ true → (u ≡ empty) × b.empties y r
  pub accepted : is_err res ≡ false → (u ≡ x) × (r ≡ y)

module _ (b : Behaviour) (m : Meaning) (L : Laws m) (bs : List ℕ) {w y r : b.State} {x u : TableData} {res : Result (Unit {0}) SheetRefusal} (l : Filled b m bs w x y res u r) where
  answer_by : {o : SheetReading} (res' : Result (Unit {0}) SheetRefusal) → RecordsRead b m bs w x y o res' → load_answer res' ≡ reading_answer o
  answer_by res' (RecordsRead.ended voices rows e f) = refl
  answer_by res' (RecordsRead.faulted cause place first e f) = refl

  pub answers : load_answer res ≡ reading_answer (read_sheet m bs)
  answers = answer_by res l.read

  table_by : {o : SheetReading} (res' : Result (Unit {0}) SheetRefusal) → RecordsRead b m bs w x y o res' → (is_err res' ≡ true → (u ≡ empty) × b.empties y r)
      → (is_err res' ≡ false → (u ≡ x) × (r ≡ y)) → u ≡ table_after o
  table_by res' (RecordsRead.ended voices rows e f) d a = (a refl).0 ∙ e
  table_by res' (RecordsRead.faulted cause place first e f) d a = (d refl).0

  -- after the calls h, which led to the empty table that the records fill
  filled_by : {o : SheetReading} (res' : Result (Unit {0}) SheetRefusal) → RecordsRead b m bs w x y o res' → (is_err res' ≡ true → (u ≡ empty) × b.empties y r)
      → (is_err res' ≡ false → (u ≡ x) × (r ≡ y)) → (g : b.State) (h : List (Call × Answer)) → LeadsTo b m g h empty w 0 → FillHistory b m g h bs o u r
  filled_by res' (RecordsRead.ended voices rows e f) d a g h H =
      subst₂ (λ (z : TableData) (q : b.State). LeadsTo b m g (posted_after (declared_after h voices) rows) z q 0) (sym ((a refl).0 ∙ e)) (sym (a refl).1) (f g h H)
  filled_by res' (RecordsRead.faulted cause place first e f) d a g h H =
      let calls = posted_after (declared_after h first.voices) first.rows in (
        first,
        subst (λ (z : TableData). LeadsTo b m g ((wipe, done) ∷ posted_after (declared_after h first.voices) first.rows) z r 0) (sym (d refl).0)
            (History.then calls (fresh_table first.voices first.rows) empty y r wipe done (f g h H).0 tt (Does.wipes r (d refl).1), refl),
      )

  filled : (g : b.State) (h : List (Call × Answer)) → LeadsTo b m g h empty w 0 → FillHistory b m g h bs (read_sheet m bs) u r
  filled g h H = filled_by res l.read l.refused l.accepted g h H

  invariant_led : (g : b.State) (h : List (Call × Answer)) → LeadsTo b m g h u r 0 → Invariant m 0 u (b.view r)
  invariant_led g h (H, e) = subst (λ (n : ℕ). Invariant m n u (b.view r)) e (invariant_holds b m L g h u r H)

  invariant_by : (o : SheetReading) (g : b.State) (h : List (Call × Answer)) → FillHistory b m g h bs o u r → Invariant m 0 u (b.view r)
  invariant_by (accepted voices rows) g h H = invariant_led g (posted_after (declared_after h voices) rows) H
  invariant_by (faulty number place layer) g h H = invariant_led g ((wipe, done) ∷ posted_after (declared_after h H.0.voices) H.0.rows) H.1

  pub leaves : u ≡ table_after (read_sheet m bs)
  leaves = table_by res l.read l.refused l.accepted

  pub extends : FillExtends b m w bs u r
  extends = record { history = filled; invariant = λ g h H. invariant_by (read_sheet m bs) g h (filled g h H) }

-- a history of no calls leads to an empty table, and has lost no key
pub begins : (b : Behaviour) (m : Meaning) {g s : b.State} {t : TableData} → History b m g [] t s → (t ≡ empty) × LeadsTo b m g [] empty s 0
begins b m (History.made s e) = (refl, (History.made s e, refl))

-- the records, read from the state w, in which a Wipe or Make left the store that was in the state s
module _ (b : Behaviour) (m : Meaning) (bs : List ℕ) {s w r : b.State} {u : TableData} (F : FillExtends b m w bs u r) where
  -- over a new table
  pub load_leaves : LeadsTo b m s [] empty w 0 → u ≡ table_after (read_sheet m bs) → LoadLeaves b m bs s u r
  load_leaves made e = record { table = e; history = F.history s [] made; invariant = F.invariant s [] made }

  -- after a Wipe of the table t
  pub load_extends : b.empties s w → (t : TableData) → LoadExtends b m t s bs u r
  load_extends wiped t =
      let wiping : (g : b.State) (h : List (Call × Answer)) → History b m g h t s → LeadsTo b m g ((wipe, done) ∷ h) empty w 0 =
      λ g h H. (History.then h t empty s w wipe done H tt (Does.wipes w wiped), refl) in
      record { history = λ g h H. F.history g ((wipe, done) ∷ h) (wiping g h H); invariant = λ g h H. F.invariant g ((wipe, done) ∷ h) (wiping g h H) }

-- ---- loaded and saved, saved and loaded

back : (m : Meaning) → Laws m → (bs : List ℕ) → Bytes bs → (u : TableData) (o : SheetReading) → read_sheet m bs ≡ o → u ≡ table_after o → LoadBack o bs (sheet u.voices u.rows)
back m L bs b u (accepted voices rows) e f = ap (λ (x : TableData). sheet x.voices x.rows) f ∙ ((sheet_laws_hold m L).loaded_saves bs b voices rows e).1
back m L bs b u (faulty number place layer) e f = tt

pub loads_back : (m : Meaning) → Laws m → (bs : List ℕ) → Bytes bs → (u : TableData) → u ≡ table_after (read_sheet m bs) → LoadBack (read_sheet m bs) bs (sheet u.voices u.rows)
loads_back m L bs b u f = back m L bs b u (read_sheet m bs) refl f

begun_limited : (m : Meaning) (t : TableData) → Limited m t → Limited m (fresh_table t.voices t.rows)
begun_limited m t l = record { voices = l.voices; sets = l.sets; rows = l.rows; bytes = l.bytes; laid_out = l.laid_out; opened = omega arith }

pub saves_again : (b : Behaviour) (m : Meaning) → Laws m → (t : TableData) (v g : b.State) (h : List (Call × Answer)) → History b m g h t v
    → read_sheet m (sheet t.voices t.rows) ≡ accepted t.voices t.rows
saves_again b m L t v g h H =
    saved_loads m L t.voices t.rows (record { limited = begun_limited m t (limits_hold b m g h t v H); all_accepted = (fit m L (history_any b m H)).okay })
