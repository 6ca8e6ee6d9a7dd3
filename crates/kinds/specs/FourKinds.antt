-- The bank of the four kinds, and which kind a row goes to.
use Rattle.std.specs.Prelude.{◌≡◌, ℕ, true, ◌||◌, ◌==◌}
use Rattle.rows.specs.Rows.{RowData, KindMeaning, Meaning, alone, beside}
use Rattle.kinds.specs.Differing.{all_different}
use Rattle.kinds.specs.Sums.{linear}
use Rattle.kinds.specs.Literals.{clause}
use Rattle.kinds.specs.Entries.{element}

-- all different (A), linear (L), clause (C) and element (E), side by side
abbrev pub four_kinds : Meaning
four_kinds =
    beside (alone all_different) (beside (alone linear) (beside (alone clause) (alone element)))

-- rows with the kind's letter go to it: of them the bank says what the kind says
pub record GoesTo (k : KindMeaning) : Type 0 where
  pub known : four_kinds.known k.letter ≡ true
  pub body_length : four_kinds.body_length k.letter ≡ k.body_length
  pub accepts : (r : RowData) → r.letter ≡ k.letter → four_kinds.accepts r ≡ k.accepts r
  pub holds : (r : RowData) → r.letter ≡ k.letter → four_kinds.holds r ≡ k.holds r
  pub turn : (r : RowData) → r.letter ≡ k.letter → four_kinds.turn r ≡ k.turn r
  pub trace : (r : RowData) → r.letter ≡ k.letter → four_kinds.trace r ≡ k.trace r

-- Each row goes to the kind whose letter it has, and no other letter is known.
pub record ByLetter : Type 0 where
  pub differing_rows : GoesTo all_different
  pub sum_rows : GoesTo linear
  pub clause_rows : GoesTo clause
  pub element_rows : GoesTo element
  pub letters : (l : ℕ)
      → four_kinds.known l ≡ (l == 0x41 || (l == 0x4C || (l == 0x43 || l == 0x45)))
