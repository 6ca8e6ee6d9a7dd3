-- What a shelf's Keep answers and leaves, case by case.
use Rattle.std.proofs.Common.{◌≡◌, ℕ, ◌<◌, ◌≤◌, Bool, true, false, cond, List, [], ◌∷◌, ◌++◌, length, ltb, leb, refl, sym, ap, ◌∙◌}
use Rattle.std.proofs.lemmas.Bool.{and_parts, ltb-true, leb-true}
use Rattle.stores.specs.Stores.{is_held, fits_space}
use Rattle.stores.specs.Behaviours.{TurnsAway}
use Rattle.stores.specs.Shelves.{ShelfState, shelf_view}
use Rattle.stores.specs.ShelfLaws.{shelf}
use Rattle.stores.specs.declared.store.Stored.{Stored}
use Rattle.stores.specs.declared.store.Stored.TheVariants.{Kept, Lost}

-- with the key behind the others
abbrev pub pushed_state : ShelfState → List ℕ → ShelfState
pushed_state s k = record { held = s.held ++ (k ∷ []); room = s.room }

-- by whether the key is held, and whether it fits
abbrev answer_at : ShelfState → List ℕ → Bool → Bool → Stored
answer_at s k held room = cond held Kept (cond room Kept Lost)

abbrev after_at : ShelfState → List ℕ → Bool → Bool → ShelfState
after_at s k held room = cond held s (cond room (pushed_state s k) s)

pub keeps_held : (s : ShelfState) (k : List ℕ) → is_held k s.held ≡ true → shelf.keeps s k Kept s
keeps_held s k m = (sym (ap (λ (b : Bool). answer_at s k b (fits_space (length k) (shelf_view s).space)) m), sym (ap (λ (b : Bool). after_at s k b (fits_space (length k) (shelf_view s).space)) m))

pub keeps_more : (s : ShelfState) (k : List ℕ) → is_held k s.held ≡ false → fits_space (length k) (shelf_view s).space ≡ true → shelf.keeps s k Kept (pushed_state s k)
keeps_more s k m f = (
  sym (ap (λ (b : Bool). answer_at s k b (fits_space (length k) (shelf_view s).space)) m ∙ ap (λ (b : Bool). answer_at s k false b) f),
  sym (ap (λ (b : Bool). after_at s k b (fits_space (length k) (shelf_view s).space)) m ∙ ap (λ (b : Bool). after_at s k false b) f),
)

pub keeps_lost : (s : ShelfState) (k : List ℕ) → is_held k s.held ≡ false → fits_space (length k) (shelf_view s).space ≡ false → shelf.keeps s k Lost s
keeps_lost s k m f = (
  sym (ap (λ (b : Bool). answer_at s k b (fits_space (length k) (shelf_view s).space)) m ∙ ap (λ (b : Bool). answer_at s k false b) f),
  sym (ap (λ (b : Bool). after_at s k b (fits_space (length k) (shelf_view s).space)) m ∙ ap (λ (b : Bool). after_at s k false b) f),
)

-- keys of so many words do not fit
pub turned_away : (s : ShelfState) (words : ℕ) → fits_space words (shelf_view s).space ≡ false → TurnsAway shelf s words
turned_away s words f k e = let c = by_member (is_held k s.held) refl in record { may = c; only = λ a t h. (h.0 ∙ sym c.0, h.1 ∙ sym c.1) }
  where
    by_member : (b : Bool) → is_held k s.held ≡ b → shelf.keeps s k (cond b Kept Lost) s
    by_member true m = keeps_held s k m
    by_member false m = keeps_lost s k m (ap (λ (n : ℕ). fits_space n (shelf_view s).space) e ∙ f)

-- what a key that fits shows of its length
pub record Fitting (words space : ℕ) : Type 0 where
  pub some : 0 < words
  pub within : words ≤ space

pub fitting : (words space : ℕ) → fits_space words space ≡ true → Fitting words space
fitting words space e = let both = and_parts (ltb 0 words) (leb words space) e in record { some = ltb-true 0 words both.0; within = leb-true words space both.1 }
