-- A store's own behaviour: the states that it may be in, what it does to them, and that any store
-- may do so.
use Rattle.std.specs.Prelude.{◌≡◌, ℕ, cond, List, length}
use Rattle.stores.specs.Stores.{View, Emptied, Keeps, is_held}
use Rattle.stores.specs.declared.store.Stored.{Stored}
use Rattle.stores.specs.declared.store.Stored.TheVariants.{Kept, Lost}

-- A clause cannot speak of every behaviour, since it has a type among its fields; a law of every
-- store is stated over one, and a trait brings each.
pub record Behaviour : Type 1 where
  pub State : Type 0
  -- what a state holds, and its space
  pub view : State → View
  -- Empty may leave t of s
  pub empties : State → State → Type 0
  -- asked to keep the key k in s, it may answer a and leave t
  pub keeps : State → List ℕ → Stored → State → Type 0
  -- which is within what every store may do
  pub empties_lawfully : (s t : State) → empties s t → Emptied (view t)
  pub keeps_lawfully : (s t : State) (k : List ℕ) (a : Stored) → keeps s k a t
      → Keeps (view s) k a (view t)

-- Keep can only alter nothing in the state s: the key k is kept if it is held, and lost otherwise
pub record Unaltered (b : Behaviour) (s : b.State) (k : List ℕ) : Type 0 where
  pub may : b.keeps s k (cond (is_held k (b.view s).held) Kept Lost) s
  pub only : (a : Stored) (t : b.State) → b.keeps s k a t
      → (a ≡ cond (is_held k (b.view s).held) Kept Lost) × (t ≡ s)

-- so it is of every key of so many words
abbrev pub TurnsAway : (b : Behaviour) → b.State → ℕ → Type 0
TurnsAway b s words = (k : List ℕ) → length k ≡ words → Unaltered b s k

-- Nothing is open: what Empty leaves, and what Keep answers and leaves, are functions of the state.
pub record Decided (b : Behaviour) : Type 0 where
  pub emptied : b.State → b.State
  pub answer : b.State → List ℕ → Stored
  pub after : b.State → List ℕ → b.State
  pub empties : (s : b.State) → b.empties s (emptied s)
  pub keeps : (s : b.State) (k : List ℕ) → b.keeps s k (answer s k) (after s k)
  pub emptied_only : (s t : b.State) → b.empties s t → t ≡ emptied s
  pub answer_only : (s t : b.State) (k : List ℕ) (a : Stored) → b.keeps s k a t → a ≡ answer s k
  pub after_only : (s t : b.State) (k : List ℕ) (a : Stored) → b.keeps s k a t → t ≡ after s k
