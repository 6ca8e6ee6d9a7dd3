-- The shelf does only what any store may do.
use Rattle.std.specs.Prelude.{◌≡◌, ℕ, Bool, true, false, not, ◌&&◌, ◌||◌, cond, List, [], ◌∷◌, ◌++◌, length, refl}
use Rattle.std.proofs.Common.{ap, ap₂, sym, ◌∙◌, subst, inl, inr}
use Rattle.std.proofs.lemmas.List.{length-append}
use Rattle.std.proofs.lemmas.Bool.{or_right, or_parts, and_parts, cases_Bool, both_ways}
use Rattle.sets.specs.Placings.{same}
use Rattle.sets.proofs.Lists.{same_is, same_self}
use Rattle.stores.specs.Stores.{Emptied, Keeps, is_held, distinct_keys, fits_space}
use Rattle.stores.specs.Behaviours.{Behaviour}
use Rattle.stores.specs.Shelves.{ShelfState, shelf_view, shelf_emptied, shelf_answer, shelf_after}
use Rattle.stores.specs.declared.store.Stored.{Stored}
use Rattle.stores.specs.declared.store.Stored.TheVariants.{Kept, Lost}

-- ---- one key more, behind the others

pub held_push : (x k : List ℕ) (ks : List (List ℕ)) → is_held x (ks ++ (k ∷ [])) ≡ (same x k || is_held x ks)
held_push x k [] = refl
held_push x k (y ∷ ks) = ap (λ (b : Bool). same x y || b) (held_push x k ks) ∙ swap (same x y) (same x k) (is_held x ks)
  where
    swap : (a b c : Bool) → (a || (b || c)) ≡ (b || (a || c))
    swap true true c = refl
    swap true false c = refl
    swap false b c = refl

same_other : (x k : List ℕ) → same k x ≡ false → same x k ≡ false
same_other x k e = elim (cases_Bool (same x k)) [
  | inl h ↦ absurd (both_ways (same k x) e (subst (λ (y : List ℕ). same k y ≡ true) (sym (same_is x k h)) (same_self k)))
  | inr h ↦ h
]

pub distinct_push : (k : List ℕ) (ks : List (List ℕ)) → is_held k ks ≡ false → distinct_keys ks ≡ true → distinct_keys (ks ++ (k ∷ [])) ≡ true
distinct_push k [] m d = refl
distinct_push k (x ∷ ks) m d =
    let a = or_parts (same k x) (is_held k ks) m in
    let e = and_parts (not (is_held x ks)) (distinct_keys ks) d in
    ap₂ (λ (p q : Bool). not p && q)
    (held_push x k ks ∙ ap (λ (p : Bool). p || is_held x ks) (same_other x k a.0))
    (distinct_push k ks a.1 e.1)
    ∙ ap (λ (p : Bool). p && true) e.0

-- ---- what Keep does is lawful

keeps_by : (s : ShelfState) (k : List ℕ) (held room : Bool) → is_held k s.held ≡ held → fits_space (length k) (shelf_view s).space ≡ room
    → Keeps (shelf_view s) k (cond held Kept (cond room Kept Lost)) (shelf_view (cond held s (cond room (record { held = s.held ++ (k ∷ []); room = s.room }) s)))
keeps_by s k true room m f = Keeps.held_already m
keeps_by s k false true m f =
    Keeps.joins (shelf_view (record { held = s.held ++ (k ∷ []); room = s.room })) m f
    (record { holds = λ x. held_push x k s.held; count = length-append s.held (k ∷ []); distinct = distinct_push k s.held m })
keeps_by s k false false m f = Keeps.does_not_fit (shelf_view s) m f (λ x h. or_right (same x k) (is_held x s.held) h) (λ h. h) (λ _. refl)

pub shelf_keeps_lawfully : (s t : ShelfState) (k : List ℕ) (a : Stored) → (a ≡ shelf_answer s k) × (t ≡ shelf_after s k) → Keeps (shelf_view s) k a (shelf_view t)
shelf_keeps_lawfully s t k a h =
    subst (λ (x : Stored). Keeps (shelf_view s) k x (shelf_view t)) (sym h.0)
    (subst (λ (x : ShelfState). Keeps (shelf_view s) k (shelf_answer s k) (shelf_view x)) (sym h.1)
    (keeps_by s k (is_held k s.held) (fits_space (length k) (shelf_view s).space) refl refl))

pub shelf_empties_lawfully : (s t : ShelfState) → t ≡ shelf_emptied s → Emptied (shelf_view t)
shelf_empties_lawfully s t e = ap (λ (x : ShelfState). x.held) e

-- the shelf's behaviour, each part of it a function of the state
abbrev pub shelf : Behaviour
shelf = record {
  State = ShelfState;
  view = shelf_view;
  empties = λ s t. t ≡ shelf_emptied s;
  keeps = λ s k a t. (a ≡ shelf_answer s k) × (t ≡ shelf_after s k);
  empties_lawfully = shelf_empties_lawfully;
  keeps_lawfully = shelf_keeps_lawfully;
}
