-- The one key that is held.
use Rattle.std.proofs.Common.{◌≡◌, ℕ, ◌<◌, Bool, true, false, ◌||◌, List, [], ◌∷◌, length, refl, arith}
use Rattle.sets.specs.Placings.{same}
use Rattle.stores.specs.Stores.{is_held}
use Rattle.loose.specs.LatestKey.{one_key}

or_none : (b : Bool) → (b || false) ≡ b
or_none true = refl
or_none false = refl

pub member_one : (k l : List ℕ) → 0 < length l → is_held k (one_key l) ≡ same k l
member_one k [] h = absurd (omega arith)
member_one k (w ∷ ws) h = or_none (same k (w ∷ ws))
