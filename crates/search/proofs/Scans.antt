-- Steps of the loops over sets and rows: what is left of a list gives what the whole does.
use Rattle.std.proofs.Common.{◌≡◌, ℕ, suc, ◌+◌, ◌<◌, ◌≤◌, Bool, true, false, List, length, get_or, drop, sym, ap, ◌∙◌}
use Rattle.std.proofs.lemmas.List.{at_drop_more, at_drop_all}
use Rattle.rows.specs.declared.row.Row.{Row}
use Rattle.rows.specs.Rows.{RowData, Meaning}
use Rattle.rows.specs.Views.{row_of, rows_of}
use Rattle.sets.specs.Placings.{some_empty, changed}
use Rattle.search.specs.Propagation.{Round, round, round_from, rounds}

-- ---- a round

-- what follows a turn that left t
after : Meaning → Bool → List RowData → List ℕ → Bool → Round
after m seen rows t c = elim c [ false ↦ round_from m seen rows t | true ↦ elim (some_empty t) [ true ↦ record { sets = t; again = false } | false ↦ round_from m true rows t ] ]

-- the turn of the row at i leaves t, and c says whether that is another list
pub record Turned (m : Meaning) (rows : List Row) (i : ℕ) (r : Row) (s t : List ℕ) (c : Bool) : Type 0 where
  pub inside : i < length rows
  pub row_is : r ≡ get_or rows i r
  pub left : t ≡ m.turn (row_of r) s
  pub paired : c ≡ changed t s

round_step : (m : Meaning) (seen : Bool) (rows : List Row) (i : ℕ) (r : Row) (s t : List ℕ) (c : Bool) → Turned m rows i r s t c
    → round_from m seen (rows_of (drop i rows)) s ≡ after m seen (rows_of (drop (i + 1) rows)) t c
unfolding after
round_step m seen rows i r s t c w =
    at_drop_more (λ l. round_from m seen (rows_of l) s) rows i r w.inside
    ∙ ap (λ x. turned (m.turn (row_of x) s)) (sym w.row_is)
    ∙ ap turned (sym w.left)
    ∙ ap (after m seen (rows_of (drop (i + 1) rows)) t) (sym w.paired)
  where
    turned : List ℕ → Round
    turned x = after m seen (rows_of (drop (i + 1) rows)) x (changed x s)

pub round_idle : (m : Meaning) (seen : Bool) (rows : List Row) (i : ℕ) (r : Row) (s t : List ℕ) (c : Bool) → Turned m rows i r s t c → c ≡ false
    → round_from m seen (rows_of (drop i rows)) s ≡ round_from m seen (rows_of (drop (i + 1) rows)) t
unfolding after
round_idle m seen rows i r s t c w e = round_step m seen rows i r s t c w ∙ ap (after m seen (rows_of (drop (i + 1) rows)) t) e

changes : (m : Meaning) (seen : Bool) (rows : List Row) (i : ℕ) (r : Row) (s t : List ℕ) (c k : Bool) → Turned m rows i r s t c → c ≡ true → some_empty t ≡ k
    → round_from m seen (rows_of (drop i rows)) s ≡ elim k [ true ↦ record { sets = t; again = false } | false ↦ round_from m true (rows_of (drop (i + 1) rows)) t ]
unfolding after
changes m seen rows i r s t c k w e f =
    round_step m seen rows i r s t c w ∙ ap (after m seen (rows_of (drop (i + 1) rows)) t) e
    ∙ ap (λ (b : Bool). elim b as (λ (_ : Bool). Round) [ true ↦ record { sets = t; again = false } | false ↦ round_from m true (rows_of (drop (i + 1) rows)) t ]) f

pub round_more : (m : Meaning) (seen : Bool) (rows : List Row) (i : ℕ) (r : Row) (s t : List ℕ) (c : Bool) → Turned m rows i r s t c → c ≡ true → some_empty t ≡ false
    → round_from m seen (rows_of (drop i rows)) s ≡ round_from m true (rows_of (drop (i + 1) rows)) t
round_more m seen rows i r s t c w e f = changes m seen rows i r s t c false w e f

pub round_stop : (m : Meaning) (seen : Bool) (rows : List Row) (i : ℕ) (r : Row) (s t : List ℕ) (c : Bool) → Turned m rows i r s t c → c ≡ true → some_empty t ≡ true
    → round_from m seen (rows_of (drop i rows)) s ≡ record { sets = t; again = false }
round_stop m seen rows i r s t c w e f = changes m seen rows i r s t c true w e f

pub round_none : (m : Meaning) (seen : Bool) (rows : List Row) (i : ℕ) (s : List ℕ) → length rows ≤ i → round_from m seen (rows_of (drop i rows)) s ≡ record { sets = s; again = seen }
round_none m seen rows i s h = at_drop_all (λ l. round_from m seen (rows_of l) s) rows i h

-- ---- rounds

rounds_step : (m : Meaning) (rows : List RowData) (n : ℕ) (s t : List ℕ) (b : Bool) → t ≡ (round m rows s).sets → b ≡ (round m rows s).again
    → rounds m rows (suc n) s ≡ elim b [ true ↦ rounds m rows n t | false ↦ t ]
rounds_step m rows n s t b e f =
    ap (λ (x : Bool). elim x as (λ (_ : Bool). List ℕ) [ true ↦ rounds m rows n (round m rows s).sets | false ↦ (round m rows s).sets ]) (sym f)
    ∙ ap (λ (x : List ℕ). elim b as (λ (_ : Bool). List ℕ) [ true ↦ rounds m rows n x | false ↦ x ]) (sym e)

pub rounds_more : (m : Meaning) (rows : List RowData) (n : ℕ) (s t : List ℕ) (b : Bool) → t ≡ (round m rows s).sets → b ≡ (round m rows s).again → b ≡ true
    → rounds m rows (suc n) s ≡ rounds m rows n t
rounds_more m rows n s t b e f k = rounds_step m rows n s t true e (sym k ∙ f)

pub rounds_last : (m : Meaning) (rows : List RowData) (n : ℕ) (s t : List ℕ) (b : Bool) → t ≡ (round m rows s).sets → b ≡ (round m rows s).again → b ≡ false
    → rounds m rows (suc n) s ≡ t
rounds_last m rows n s t b e f k = rounds_step m rows n s t false e (sym k ∙ f)
