-- How long a report is at most.
use Rattle.rows.specs.declared.bank.Bank as bank
use Rattle.stores.specs.declared.store.Store as store
use Rattle.std.proofs.Common.{◌≡◌, ℕ, zero, suc, ◌+◌, ◌*◌, ◌/◌, ◌%◌, ◌≤◌, Bool, true, false, cond, eqb, List, [], ◌∷◌, ◌++◌, length, codes, decimal, map, vec_items, Ok, Err, Result, arith}
use lib.Count.{trailing_le}
use Rattle.std.specs.Fmt.{digit_glyph, digits_onto, digits}
use Rattle.std.proofs.lemmas.Fmt.{length-decimal-le}
use Rattle.std.proofs.lemmas.List.{length-append}
use Rattle.sets.specs.Sets.{least}
use Rattle.search.specs.Search.{Level}
use Rattle.search.specs.Calls.{result}
use Rattle.table.specs.declared.engine.level.End.{End}
use Rattle.table.specs.declared.engine.level.End.TheVariants.{Fresh, Found, Exhausted}
use Rattle.table.specs.declared.outcome.Outcome.{Outcome}
use Rattle.table.specs.declared.outcome.Outcome.TheVariants as outcome
use Rattle.table.specs.declared.table.Table as tables
use Rattle.table.specs.Outcomes.{outcome_name}
use Rattle.table.specs.Statuses.{status_at}
use Rattle.table.specs.Searches.{levels_of}
use Rattle.table.specs.Shown.{model, found_in}
use Rattle.sheets.specs.declared.refusal.Layer.{Layer}
use Rattle.sheets.specs.declared.refusal.Layer.TheVariants as layer
use Rattle.sheets.specs.declared.refusal.SheetRefusal.{SheetRefusal}
use Rattle.sheets.specs.Causes.{cause_number, layer_name, cause_layer}
use Rattle.job.specs.Texts.{refused_line, outcome_line, count_line, value_line, value_lines, sheet_text}

-- ---- numbers

cond_at_most : (b : Bool) (xs ys : List ℕ) (n : ℕ) → length xs ≤ n → length ys ≤ n → length (cond b xs ys) ≤ n
cond_at_most true xs ys n h k = h
cond_at_most false xs ys n h k = k

spelled_at_most : (k n : ℕ) (acc : List ℕ) → length (digits_onto k 10 false n acc) ≤ k + length acc
spelled_at_most zero n acc = omega arith
spelled_at_most (suc k) n acc =
    cond_at_most (eqb (n / 10) 0) (digit_glyph false (n % 10) ∷ acc) (digits_onto k 10 false (n / 10) (digit_glyph false (n % 10) ∷ acc)) (suc k + length acc)
    (omega arith) (omega (arith, spelled_at_most k (n / 10) (digit_glyph false (n % 10) ∷ acc)))

pub decimal_at_most : (n : ℕ) → length (decimal n) ≤ 64
unfolding digits
decimal_at_most n = omega (arith, spelled_at_most 64 n [])

-- ---- lines

pub refused_line_length : (number place : ℕ) (l : Layer)
    → length (refused_line number place l) ≡ length (decimal number) + length (decimal place) + length (layer_name l) + 17
refused_line_length number place l =
    omega (
      arith,
      length-append (decimal number) (codes " at " ++ (decimal place ++ (codes " in " ++ (layer_name l ++ (0x0A ∷ []))))),
      length-append (decimal place) (codes " in " ++ (layer_name l ++ (0x0A ∷ []))),
      length-append (layer_name l) (0x0A ∷ []),
    )

pub count_line_length : (name : List ℕ) (n : ℕ) → length (count_line name n) ≡ length name + length (decimal n) + 2
count_line_length name n = omega (arith, length-append name (codes " " ++ (decimal n ++ (0x0A ∷ []))), length-append (decimal n) (0x0A ∷ []))

pub value_line_length : (i v : ℕ) → length (value_line i v) ≡ length (decimal i) + length (decimal v) + 2
value_line_length i v = omega (arith, length-append (decimal i) (codes " " ++ (decimal v ++ (0x0A ∷ []))), length-append (decimal v) (0x0A ∷ []))

-- values are the least of sets: 64 at most
value_lines_length : (i : ℕ) (sets : List ℕ) → i + length sets ≤ 80 → length (value_lines i (map least sets)) ≤ 6 * length sets
value_lines_length i [] h = omega arith
value_lines_length i (s ∷ sets) h =
    omega (
      arith,
      length-append (value_line i (least s)) (value_lines (suc i) (map least sets)),
      value_line_length i (least s),
      length-decimal-le 2 i (omega arith) (omega arith) (omega arith),
      length-decimal-le 2 (least s) (omega arith) (omega (arith, trailing_le 64 s)) (omega (arith, trailing_le 64 s)),
      value_lines_length (suc i) sets (omega arith),
    )

found_lines_length : (e : End) (sets : List ℕ) (levels : List Level) → length sets ≤ 80 → length (value_lines 0 (result (status_at e sets levels))) ≤ 480
found_lines_length Fresh sets [] h = omega arith
found_lines_length Found sets [] h = omega (arith, value_lines_length 0 sets (omega arith))
found_lines_length Exhausted sets [] h = omega arith
found_lines_length e sets (l ∷ levels) h = omega arith

outcome_line_length : (o : Outcome) → length (outcome_line (outcome_name o)) ≤ 8
outcome_line_length outcome.Stopped = omega arith
outcome_line_length outcome.Found = omega arith
outcome_line_length outcome.None = omega arith

layer_name_length : (l : Layer) → length (layer_name l) ≤ 5
layer_name_length layer.Sheet = omega arith
layer_name_length layer.Row = omega arith
layer_name_length layer.Table = omega arith

-- ---- reports

pub sheet_text_fits : {B S : Type 0} {b : bank.Ghosts B} {s : store.Ghosts S} (r : Result Outcome SheetRefusal) (t : tables.Table B S b s) → length (sheet_text r (model t)) ≤ 534
sheet_text_fits (Ok o) t =
    omega (
      arith,
      length-append (outcome_line (outcome_name o)) (count_line (codes "opened") t.search.opened ++ (count_line (codes "exhausted") t.search.exhausted ++ value_lines 0 (found_in t))),
      length-append (count_line (codes "opened") t.search.opened) (count_line (codes "exhausted") t.search.exhausted ++ value_lines 0 (found_in t)),
      length-append (count_line (codes "exhausted") t.search.exhausted) (value_lines 0 (found_in t)),
      outcome_line_length o,
      count_line_length (codes "opened") t.search.opened,
      length-decimal-le 13 t.search.opened (omega arith) (omega (arith, t.search.bounded)) (omega (arith, t.search.bounded)),
      count_line_length (codes "exhausted") t.search.exhausted,
      length-decimal-le 14 t.search.exhausted (omega arith) (omega (arith, t.search.bounded, t.search.spent)) (omega (arith, t.search.bounded, t.search.spent)),
      found_lines_length t.search.end (vec_items t.search.sets) (levels_of t.search) (omega (arith, t.search.few, t.search.sets.ok.0)),
    )
sheet_text_fits (Err f) t =
    omega (
      arith,
      refused_line_length (cause_number f.cause) f.place (cause_layer f.cause),
      decimal_at_most (cause_number f.cause),
      decimal_at_most f.place,
      layer_name_length (cause_layer f.cause),
    )
