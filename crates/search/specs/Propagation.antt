-- Propagation: rows take turns in order, round after round, until a turn empties a set or a round
-- changes nothing.
use Rattle.std.specs.Prelude.{ℕ, zero, suc, ◌+◌, ◌*◌, Bool, true, false, List, [], ◌∷◌, length, count_ones}
use Rattle.sets.specs.Placings.{some_empty, changed}
use Rattle.rows.specs.Rows.{RowData, Meaning}

-- what a round leaves: the sets, and whether another round is due, since some turn changed the sets
-- and none emptied one
pub record Round : Type 0 where
  pub sets : List ℕ
  pub again : Bool

-- each row has a turn, until one empties a set; `seen` says whether a turn before these changed the
-- sets
abbrev pub round_from : Meaning → Bool → List RowData → List ℕ → Round
round_from m seen [] s = record { sets = s; again = seen }
round_from m seen (r ∷ rows) s = elim (changed (m.turn r s) s) [
  | false ↦ round_from m seen rows (m.turn r s)
  | true ↦ elim (some_empty (m.turn r s)) [
    | true ↦ record { sets = m.turn r s; again = false }
    | false ↦ round_from m true rows (m.turn r s)
  ]
]

abbrev pub round : Meaning → List RowData → List ℕ → Round
round m rows s = round_from m false rows s

-- rounds as long as another is due; the number bounds them
abbrev pub rounds : Meaning → List RowData → ℕ → List ℕ → List ℕ
rounds m rows zero s = s
rounds m rows (suc n) s =
    elim (round m rows s).again [
      | true ↦ rounds m rows n (round m rows s).sets
      | false ↦ (round m rows s).sets
    ]

-- how many values the sets have together
abbrev pub size : List ℕ → ℕ
size [] = 0
size (s ∷ sets) = count_ones s + size sets

-- over a lawful bank each round but the last takes a value out, and a set has 64 values at most
abbrev pub propagated : Meaning → List RowData → List ℕ → List ℕ
propagated m rows s = rounds m rows (suc (64 * length s)) s
