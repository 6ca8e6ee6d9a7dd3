-- The store of the newest key does what the laws of a store require.
use Rattle.std.specs.Prelude.{◌≡◌, ℕ, Bool, true, false, cond, ◌||◌, List, [], ◌∷◌, length, refl}
use Rattle.std.proofs.Common.{ap, sym, subst}
use Rattle.std.proofs.lemmas.Bool.{or_left, or_right, both_ways}
use Rattle.sets.specs.Placings.{same}
use Rattle.stores.specs.Stores.{Emptied, Keeps, is_held, fits_space}
use Rattle.stores.specs.Behaviours.{Behaviour}
use Rattle.stores.specs.Bare.{never_fits}
use Rattle.stores.specs.declared.store.Stored.{Stored}
use Rattle.stores.specs.declared.store.Stored.TheVariants.{Kept, Lost}
use Rattle.loose.specs.LatestKey.{LatestState, latest_view, latest_answer, latest_after}

part : (x k : List ℕ) (b : Bool) → (same x k || false) ≡ true → (same x k || b) ≡ true
part x k b h = or_left (same x k) b (only (same x k) h)
  where
    only : (c : Bool) → (c || false) ≡ true → c ≡ true
    only true e = refl
    only false e = e

keeps_by : (s : LatestState) (k : List ℕ) (held room : Bool) → is_held k s.held ≡ held → fits_space (length k) s.room ≡ room
    → Keeps (latest_view s) k (cond held Kept Lost) (latest_view (cond held s (cond room (record { held = k ∷ []; room = s.room }) s)))
keeps_by s k true room m f = Keeps.held_already m
keeps_by s k false true m f =
    Keeps.does_not_fit (latest_view (record { held = k ∷ []; room = s.room })) m (never_fits (length k)) (λ x h. part x k (is_held x s.held) h) (λ _. refl)
    (λ e. absurd (both_ways (fits_space (length k) s.room) (ap (λ (n : ℕ). fits_space n s.room) e) f))
keeps_by s k false false m f =
    Keeps.does_not_fit (latest_view s) m (never_fits (length k)) (λ x h. or_right (same x k) (is_held x s.held) h) (λ h. h) (λ _. refl)

pub latest_keeps_lawfully : (s t : LatestState) (k : List ℕ) (a : Stored) → (a ≡ latest_answer s k) × (t ≡ latest_after s k) → Keeps (latest_view s) k a (latest_view t)
latest_keeps_lawfully s t k a h =
    subst (λ (x : Stored). Keeps (latest_view s) k x (latest_view t)) (sym h.0)
    (subst (λ (x : LatestState). Keeps (latest_view s) k (latest_answer s k) (latest_view x)) (sym h.1)
    (keeps_by s k (is_held k s.held) (fits_space (length k) s.room) refl refl))

pub latest_empties_lawfully : (s t : LatestState) → t ≡ record { held = []; room = s.room } → Emptied (latest_view t)
latest_empties_lawfully s t e = ap (λ (x : LatestState). x.held) e

abbrev pub latest : Behaviour
latest = record {
  State = LatestState;
  view = latest_view;
  empties = λ s t. t ≡ record { held = []; room = s.room };
  keeps = λ s k a t. (a ≡ latest_answer s k) × (t ≡ latest_after s k);
  empties_lawfully = latest_empties_lawfully;
  keeps_lawfully = latest_keeps_lawfully;
}
