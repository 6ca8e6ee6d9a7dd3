-- Lawful placings, and the least of them.
use Rattle.std.specs.Prelude.{◌≡◌, ℕ, true, ◌⊎◌, List, [], ◌∷◌, length}
use mathlib.Core.HLevel.{×_prop, Unit-prop}
use Rattle.std.proofs.Props.{props}
use Rattle.sets.specs.Placings.{Proper, Within, Lesser}
use Rattle.std.specs.List.{list_all}
use Rattle.rows.specs.Rows.{RowData, Meaning}
use Rattle.rows.specs.Laws.{Accepted}

-- the bank accepts each row with n voices
abbrev pub AllAccepted : Meaning → List RowData → ℕ → Type 0
AllAccepted m [] n = Unit {0}
AllAccepted m (r ∷ rows) n = Accepted m r n × AllAccepted m rows n

-- what the laws ask of rows and sets: the bank accepts each row with as many voices, and no set is
-- empty
pub record Ready (m : Meaning) (rows : List RowData) (s : List ℕ) : Type 0 where
  pub accepted : AllAccepted m rows (length s)
  pub proper : Proper s

-- each of these facts has one proof at most
all_accepted_once : (m : Meaning) (rows : List RowData) (n : ℕ) → IsProp (AllAccepted m rows n)
all_accepted_once m [] n = Unit-prop
all_accepted_once m (r ∷ rows) n = ×_prop (Prim.hlevel props) (all_accepted_once m rows n)

pub ready_once : (m : Meaning) (rows : List RowData) (s : List ℕ) → IsProp (Ready m rows s)
ready_once m rows s = Prim.hlevel (all_accepted_once, props)

-- every row holds for the placing p
abbrev pub AllHold : Meaning → List RowData → List ℕ → Type 0
AllHold m rows p = list_all (λ r. m.holds r p) rows ≡ true

-- a placing is lawful: each value is in the voice's opening set, and every row holds
pub record Lawful (m : Meaning) (voices : List ℕ) (rows : List RowData) (p : List ℕ) : Type 0 where
  pub within : Within p voices
  pub holding : AllHold m rows p

-- the least lawful placing: lesser than every other
pub record Least (m : Meaning) (voices : List ℕ) (rows : List RowData) (p : List ℕ) : Type 0 where
  pub lawful : Lawful m voices rows p
  pub least : (q : List ℕ) → Lawful m voices rows q → (q ≡ p) ⊎ Lesser p q

-- there is no lawful placing
abbrev pub Lawless : Meaning → List ℕ → List RowData → Type 0
Lawless m voices rows = (q : List ℕ) → Lawful m voices rows q → ⊥

-- two lists of voices and rows have the same least lawful placing, or neither has any lawful one
abbrev pub SameLeast : Meaning → List ℕ → List RowData → Meaning → List ℕ → List RowData → Type 0
SameLeast m voices rows m' voices' rows' =
    ((p : List ℕ) × Least m voices rows p × Least m' voices' rows' p)
    ⊎ (Lawless m voices rows × Lawless m' voices' rows')
