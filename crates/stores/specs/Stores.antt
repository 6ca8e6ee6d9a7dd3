-- What any store of keys is, by the keys that it holds and its space, and what it may do.
use Rattle.std.specs.Prelude.{◌≡◌, ℕ, ◌+◌, Bool, true, false, not, ◌&&◌, ◌||◌, List, [], ◌∷◌, length, nat_le, nat_lt}
use Rattle.sets.specs.Placings.{same}
use Rattle.std.specs.List.{list_any}
use Rattle.stores.specs.declared.store.Stored.{Stored}
use Rattle.stores.specs.declared.store.Stored.TheVariants.{Kept, Lost}

-- the key is among these
abbrev pub is_held : List ℕ → List (List ℕ) → Bool
is_held k keys = list_any (same k) keys

-- no key occurs twice
abbrev pub distinct_keys : List (List ℕ) → Bool
distinct_keys [] = true
distinct_keys (k ∷ keys) = not (is_held k keys) && distinct_keys keys

-- the keys that a store holds, and how many words it has left
pub record View : Type 0 where
  pub held : List (List ℕ)
  pub space : ℕ

-- what Empty leaves
abbrev pub Emptied : View → Type 0
Emptied w = w.held ≡ []

-- a key of so many words has one word or more and fits the space
abbrev pub fits_space : ℕ → ℕ → Bool
fits_space words space = nat_lt 0 words && nat_le words space

-- the keys of w are those of v and k, which v does not hold
pub record Joined (v : View) (k : List ℕ) (w : View) : Type 0 where
  pub holds : (x : List ℕ) → is_held x w.held ≡ (same x k || is_held x v.held)
  pub count : length w.held ≡ length v.held + 1
  pub distinct : distinct_keys v.held ≡ true → distinct_keys w.held ≡ true

-- What a call of Keep may do. Open is only which of the old keys and the new one are held after
-- lost, and the space that is left then or after joining.
pub data Keeps (v : View) (k : List ℕ) : Stored → View → Type 0 where
  -- held already: nothing moves
  held_already : is_held k v.held ≡ true → Keeps v k Kept v
  -- it fits: it joins the others
  joins : (w : View) → is_held k v.held ≡ false → fits_space (length k) v.space ≡ true
      → Joined v k w → Keeps v k Kept w
  -- it does not fit: what is held is part of the old keys and the new one; a key of no words alters
  -- nothing
  does_not_fit : (w : View) → is_held k v.held ≡ false → fits_space (length k) v.space ≡ false
      → ((x : List ℕ) → is_held x w.held ≡ true → (same x k || is_held x v.held) ≡ true)
      → (distinct_keys v.held ≡ true → distinct_keys w.held ≡ true) → (length k ≡ 0 → w ≡ v)
      → Keeps v k Lost w
