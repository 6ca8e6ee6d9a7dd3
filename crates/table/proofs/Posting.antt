-- One row more: the refusals of Post, and the rows and their bytes afterwards.
use Rattle.std.proofs.Common.{◌≡◌, ℕ, ◌+◌, ◌-◌, ◌<◌, ◌≤◌, Bool, true, false, cond, not, ◌||◌, ltb, leb, List, [], ◌∷◌, ◌++◌, length, take, drop, set, is_ok, Ok, Err, Result, sym, refl, ap, ◌∙◌, ap₂, arith}
use Rattle.std.proofs.lemmas.List.{take-set, take_more_set, map_push}
use Rattle.std.proofs.lemmas.Bool.{le-leb, lt-leb, le-ltb, lt-ltb, leb-true, leb-false, ltb-false, or_left, or_parts, not_from_true}
use Rattle.rows.specs.declared.row.Row.{Row}
use Rattle.rows.specs.declared.refusal.KindRefusal.TheVariants.{Undeclared, RuleBroken}
use Rattle.rows.specs.declared.refusal.RowRefusal.{RowRefusal}
use Rattle.rows.specs.declared.refusal.RowRefusal.TheVariants.{UnknownLetter, BadCount, WrongLength, UnmarkedMember, ByKind}
use Rattle.rows.specs.Refusals.{row_number}
use Rattle.rows.specs.Rows.{RowData, Meaning, Verdict}
use Rattle.rows.specs.Views.{row_of, rows_of}
use Rattle.rows.specs.Bytes.{Bytes, head_length, lettered, counted, right_length, marked, Layout, decode, encode, total_bytes}
use Rattle.rows.specs.Reading.{checked, of_kind, row_verdict, row_after}
use Rattle.rows.proofs.Layouts.{bytes_both_ways}
use Rattle.rows.proofs.Readings.{layout_right}
use Rattle.rows.specs.declared.limits.TheConstants.{MOST_ROWS, MOST_BYTES}
use Rattle.rows.specs.Reasons.{judge, kind_refuses}
use Rattle.search.specs.Calls.{TableData, judged}
use Rattle.search.specs.Calls.Call.{post}
use Rattle.rows.specs.Reasons.Judgement.{passes, refused_under}

-- ---- the refusals

-- the answer and the refusals by their tests
abbrev answered : Bool → Bool → Bool → Bool → Verdict → Result (Unit {0}) RowRefusal
answered a b c d x = checked a UnknownLetter (checked b BadCount (checked c WrongLength (checked d UnmarkedMember (of_kind x))))

abbrev tests : Bool → Bool → Bool → Bool → Verdict → Bool → List (ℕ × Bool)
tests a b c d x full =
    (2, not a) ∷ (5, not b) ∷ (6, not c) ∷ (7, not d) ∷ (8, kind_refuses 8 x) ∷ (9, kind_refuses 9 x) ∷ (12, full) ∷ []

abbrev pub Answered : Type 0
Answered = Result (Unit {0}) RowRefusal

abbrev pub fault : RowRefusal → Answered
fault f = Err f

never : {A : Type 0} (f : RowRefusal) (x : Unit {0}) → fault f ≡ Ok x → A
never f x e = let z : ◌≡◌ {A = ℕ} 0 1 = cc in absurd (omega arith)

under : (f k : RowRefusal) → fault f ≡ fault k → refused_under (row_number k) ≡ refused_under (row_number f)
under f k e = let p : k ≡ f = cc in ap (λ (x : RowRefusal). refused_under (row_number x)) p

faulty : (a b c d : Bool) (x : Verdict) (full : Bool) (f : RowRefusal) → fault f ≡ answered a b c d x → judge (tests a b c d x full) ≡ refused_under (row_number f)
faulty false b c d x full f e = under f UnknownLetter e
faulty true false c d x full f e = under f BadCount e
faulty true true false d x full f e = under f WrongLength e
faulty true true true false x full f e = under f UnmarkedMember e
faulty true true true true (Ok y) full f e = never f y e
faulty true true true true (Err Undeclared) full f e = under f (ByKind Undeclared) e
faulty true true true true (Err RuleBroken) full f e = under f (ByKind RuleBroken) e

faultless : (a b c d : Bool) (x : Verdict) (full : Bool) (y : Unit {0}) → Ok y ≡ answered a b c d x → judge (tests a b c d x full) ≡ judge ((12, full) ∷ [])
faultless false b c d x full y e = never UnknownLetter y (sym e)
faultless true false c d x full y e = never BadCount y (sym e)
faultless true true false d x full y e = never WrongLength y (sym e)
faultless true true true false x full y e = never UnmarkedMember y (sym e)
faultless true true true true (Ok z) full y e = refl
faultless true true true true (Err f) full y e = never (ByKind f) y (sym e)

all_right : (a b c d : Bool) (x : Verdict) (y : Unit {0}) → Ok y ≡ answered a b c d x → (a ≡ true) × (b ≡ true) × (c ≡ true) × (d ≡ true)
all_right false b c d x y e = never UnknownLetter y (sym e)
all_right true false c d x y e = never BadCount y (sym e)
all_right true true false d x y e = never WrongLength y (sym e)
all_right true true true false x y e = never UnmarkedMember y (sym e)
all_right true true true true x y e = (refl, refl, refl, refl)

all_yes : (a b c d : Bool) (x : Verdict) (y : Unit {0}) → Ok y ≡ answered a b c d x → x ≡ Ok tt
all_yes false b c d x y e = never UnknownLetter y (sym e)
all_yes true false c d x y e = never BadCount y (sym e)
all_yes true true false d x y e = never WrongLength y (sym e)
all_yes true true true false x y e = never UnmarkedMember y (sym e)
all_yes true true true true (Ok z) y e = refl
all_yes true true true true (Err f) y e = never (ByKind f) y (sym e)

-- no row more has room
abbrev pub full_for : List RowData → ℕ → Bool
full_for rows bytes = leb MOST_ROWS (length rows) || ltb MOST_BYTES (total_bytes rows + bytes)

module _ (m : Meaning) (t : TableData) (bs : List ℕ) where
  pub bytes_refused : (f : RowRefusal) → fault f ≡ row_verdict m bs (length t.voices) → judged m t (post bs) ≡ refused_under (row_number f)
  bytes_refused f e =
      faulty (lettered m bs) (counted bs) (right_length m bs) (marked (drop (head_length m bs) bs)) (m.accepts (decode m bs) (length t.voices)) (full_for t.rows (length bs)) f e

  pub rows_full : (y : Unit {0}) → Ok y ≡ row_verdict m bs (length t.voices) → full_for t.rows (length bs) ≡ true → judged m t (post bs) ≡ refused_under 12
  rows_full y e h =
      faultless (lettered m bs) (counted bs) (right_length m bs) (marked (drop (head_length m bs) bs)) (m.accepts (decode m bs) (length t.voices)) (full_for t.rows (length bs)) y e
      ∙ ap (λ (b : Bool). judge ((12, b) ∷ [])) h

  pub row_fits : (y : Unit {0}) → Ok y ≡ row_verdict m bs (length t.voices) → full_for t.rows (length bs) ≡ false → judged m t (post bs) ≡ passes
  row_fits y e h =
      faultless (lettered m bs) (counted bs) (right_length m bs) (marked (drop (head_length m bs) bs)) (m.accepts (decode m bs) (length t.voices)) (full_for t.rows (length bs)) y e
      ∙ ap (λ (b : Bool). judge ((12, b) ∷ [])) h

pub laid_out : (m : Meaning) (bs : List ℕ) (n : ℕ) (y : Unit {0}) → Ok y ≡ row_verdict m bs n → Layout m bs
laid_out m bs n y e =
    let r = all_right (lettered m bs) (counted bs) (right_length m bs) (marked (drop (head_length m bs) bs)) (m.accepts (decode m bs) n) y e in
    record { letters = r.0; counts = r.1; long = r.2; marks = r.3 }

pub verdict_yes : (m : Meaning) (bs : List ℕ) (n : ℕ) (y : Unit {0}) → Ok y ≡ row_verdict m bs n → m.accepts (decode m bs) n ≡ Ok tt
verdict_yes m bs n y e = all_yes (lettered m bs) (counted bs) (right_length m bs) (marked (drop (head_length m bs) bs)) (m.accepts (decode m bs) n) y e

-- ---- the room

pub no_room : (rows : List RowData) (bytes : ℕ) → MOST_ROWS ≤ length rows → false ≡ not (leb MOST_ROWS (length rows) || ltb MOST_BYTES (total_bytes rows + bytes))
no_room rows bytes h = sym (not_from_true (full_for rows bytes) (or_left (leb MOST_ROWS (length rows)) (ltb MOST_BYTES (total_bytes rows + bytes)) (le-leb MOST_ROWS (length rows) h)))

by_bytes : (bytes sum : ℕ) (b : Bool) → sum ≤ MOST_BYTES → leb bytes (MOST_BYTES - sum) ≡ b → ltb MOST_BYTES (sum + bytes) ≡ not b
by_bytes bytes sum true h e = le-ltb MOST_BYTES (sum + bytes) (omega (arith, leb-true bytes (MOST_BYTES - sum) e))
by_bytes bytes sum false h e = lt-ltb MOST_BYTES (sum + bytes) (omega (arith, leb-false bytes (MOST_BYTES - sum) e))

not_not : (b : Bool) → not (not b) ≡ b
not_not true = refl
not_not false = refl

pub room_by : (rows : List RowData) (bytes sum : ℕ) → length rows < MOST_ROWS → total_bytes rows ≡ sum → sum ≤ MOST_BYTES
    → leb bytes (MOST_BYTES - sum) ≡ not (leb MOST_ROWS (length rows) || ltb MOST_BYTES (total_bytes rows + bytes))
room_by rows bytes sum h e k =
    let b = leb bytes (MOST_BYTES - sum) in
    sym (
    ap (λ (x : Bool). not (x || ltb MOST_BYTES (total_bytes rows + bytes))) (lt-leb MOST_ROWS (length rows) h)
    ∙ ap (λ (n : ℕ). not (ltb MOST_BYTES (n + bytes))) e
    ∙ ap not (by_bytes bytes sum b k refl)
    ∙ not_not b
    )

pub full_by : (rows rows' : List RowData) (bytes : ℕ) → rows' ≡ rows → false ≡ not (full_for rows' bytes) → full_for rows bytes ≡ true
full_by rows rows' bytes e h = sym (ap (λ (x : List RowData). full_for x bytes) e) ∙ sym (not_not (full_for rows' bytes)) ∙ ap not (sym h)

pub open_by : (rows rows' : List RowData) (bytes : ℕ) → rows' ≡ rows → true ≡ not (full_for rows' bytes) → full_for rows bytes ≡ false
open_by rows rows' bytes e h = sym (ap (λ (x : List RowData). full_for x bytes) e) ∙ sym (not_not (full_for rows' bytes)) ∙ ap not (sym h)

pub room_left : (rows : List RowData) (bytes : ℕ) → full_for rows bytes ≡ false → (length rows < MOST_ROWS) × (total_bytes rows + bytes ≤ MOST_BYTES)
room_left rows bytes h =
    let p = or_parts (leb MOST_ROWS (length rows)) (ltb MOST_BYTES (total_bytes rows + bytes)) h in
    (leb-false MOST_ROWS (length rows) p.0, ltb-false MOST_BYTES (total_bytes rows + bytes) p.1)

-- ---- the rows afterwards

-- the row beyond the table's own may be written
pub rows_kept : (items : List Row) (n : ℕ) (r : Row) → rows_of (take n (set items n r)) ≡ rows_of (take n items)
rows_kept items n r = ap rows_of (take-set items n r)

pub rows_pushed : (m : Meaning) (items : List Row) (n : ℕ) (r : Row) (bs : List ℕ) (before : RowData) → n < length items → Layout m bs → row_of r ≡ row_after m bs before
    → rows_of (take (n + 1) (set items n r)) ≡ rows_of (take n items) ++ (decode m bs ∷ [])
rows_pushed m items n r bs before h l e =
    ap rows_of (take_more_set items n r h)
    ∙ map_push row_of (take n items) r
    ∙ ap (λ (x : RowData). rows_of (take n items) ++ (x ∷ [])) (e ∙ ap (λ (x : Result (Unit {0}) RowRefusal). cond (is_ok x) (decode m bs) before) (layout_right m bs l))

total_push : (rows : List RowData) (r : RowData) → total_bytes (rows ++ (r ∷ [])) ≡ total_bytes rows + length (encode r)
total_push [] r = omega arith
total_push (x ∷ rows) r = omega (arith, total_push rows r)

pub bytes_pushed : (m : Meaning) (rows rows' : List RowData) (bs : List ℕ) (sum : ℕ) → Bytes bs → Layout m bs → rows' ≡ rows ++ (decode m bs ∷ []) → total_bytes rows ≡ sum
    → total_bytes rows' ≡ sum + length bs
bytes_pushed m rows rows' bs sum f l e s =
    ap total_bytes e
    ∙ total_push rows (decode m bs)
    ∙ ap₂ (λ (x : ℕ) (y : List ℕ). x + length y) s ((bytes_both_ways m).1 bs f l).1
