-- A store that holds only the newest key.
use Rattle.std.specs.Prelude.{ℕ, cond, List, [], ◌∷◌, length, take}
use Rattle.stores.specs.Stores.{View, is_held, fits_space}
use Rattle.stores.specs.declared.store.Stored.{Stored}
use Rattle.stores.specs.declared.store.Stored.TheVariants.{Kept, Lost}
use Rattle.loose.specs.declared.latest.Latest.{Latest}

-- The key that is held, if one is, and how many words a key may have.
pub record LatestState : Type 0 where
  pub held : List (List ℕ)
  pub room : ℕ

-- the list of this one key; a key of no words is no key
abbrev pub one_key : List ℕ → List (List ℕ)
one_key [] = []
one_key (w ∷ ws) = (w ∷ ws) ∷ []

abbrev pub latest_state : Latest → LatestState
latest_state s = record { held = one_key (take s.used s.words.now); room = length s.words.now }

-- Its space is 0, so that keeping a new key returns `Lost`; the key is held all the same.
abbrev pub latest_view : LatestState → View
latest_view s = record { held = s.held; space = 0 }

-- A held key changes nothing. Any other key, if it is not too long, replaces the one that is held.
abbrev pub latest_answer : LatestState → List ℕ → Stored
latest_answer s k = cond (is_held k s.held) Kept Lost

abbrev pub latest_after : LatestState → List ℕ → LatestState
latest_after s k =
    cond (is_held k s.held) s
    (cond (fits_space (length k) s.room) (record { held = k ∷ []; room = s.room }) s)
