-- The premises of the laws of a kind are needed: without its premise each of these laws is false of
-- the loose kind. (That its turn only narrows is true of it everywhere.)
use Rattle.std.specs.Prelude.{◌≡◌, ℕ, false, List, ◌++◌, length, Ok}
use Rattle.sets.specs.Placings.{changed, Proper}
use Rattle.rows.specs.Rows.{alone, RowData}
use Rattle.rows.specs.Laws.{Shaped, Accepted}
use Rattle.loose.specs.Loose.{loose}

pub record PremisesNeeded : Type 0 where
  -- it accepts data that are no row
  pub accepts_no_row : ((r : RowData) (n : ℕ) → loose.accepts r n ≡ Ok tt → Shaped (alone loose) r)
      → ⊥
  -- for numbers that are no placing, `holds` depends on further voices
  pub holds_more : ((r : RowData) (p q : List ℕ) → Accepted (alone loose) r (length p)
      → loose.holds r (p ++ q) ≡ loose.holds r p) → ⊥
  -- so do its turn and its trace where a set is empty, and for data that are no row
  pub turn_more_empty : ((r : RowData) (s t : List ℕ) → Accepted (alone loose) r (length s)
      → loose.turn r (s ++ t) ≡ loose.turn r s ++ t) → ⊥
  pub trace_more_empty : ((r : RowData) (s t : List ℕ) → Accepted (alone loose) r (length s)
      → loose.trace r (s ++ t) ≡ loose.trace r s) → ⊥
  pub turn_more_no_row : ((r : RowData) (s t : List ℕ) → Proper (s ++ t)
      → loose.turn r (s ++ t) ≡ loose.turn r s ++ t) → ⊥
  pub trace_more_no_row : ((r : RowData) (s t : List ℕ) → Proper (s ++ t)
      → loose.trace r (s ++ t) ≡ loose.trace r s) → ⊥
  -- and there its turn, which returns that it took nothing, takes values
  pub took_empty : ((r : RowData) (s : List ℕ) → Accepted (alone loose) r (length s)
      → changed (loose.turn r s) s ≡ false) → ⊥
  pub took_no_row : ((r : RowData) (s : List ℕ) → Proper s → changed (loose.turn r s) s ≡ false) → ⊥
