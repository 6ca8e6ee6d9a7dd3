-- What holds of each element of a list; cuts of sets, and what they leave.
use Rattle.std.proofs.Common.{◌≡◌, ℕ, zero, suc, ◌^◌, ◌<◌, ◌≤◌, Bool, true, false, ◌&&◌, ◌||◌, eqb, ◌≢◌, List, [], ◌∷◌, ◌++◌, map, length, get_or, set, sym, refl, ap, ◌∙◌, subst, ap₂, inl, inr, arith, lit<, length-set}
use Rattle.std.proofs.lemmas.List.{get_or-set_same, get_or-set_other, set-append_left, ext_get_or, get_or_past, get_or_append_left, set_past}
use Rattle.std.proofs.lemmas.Bool.{cases_eq, cases_lt, both_ways, and_parts, and_from, or_parts}
use Rattle.rows.specs.declared.member.Member.{Member}
use Rattle.sets.specs.Placings.{some_empty, all_fixed, Proper, Within, Narrower}
use Rattle.std.specs.List.{list_all, list_any}
use Rattle.sets.specs.Sets.{has, fixed, sift}
use Rattle.rows.specs.Shared.{cut, cuts, at}
use Rattle.sets.proofs.Membership.{sift_below, has_sift, sift_part, has_below, fixed_part, parts_same}

-- ---- each element

abbrev pub Each : {A : Type 0} → (A → Type 0) → List A → Type 0
Each P [] = Unit {0}
Each P (x ∷ xs) = P x × Each P xs

pub all_each : {A : Type 0} (f : A → Bool) (xs : List A) → list_all f xs ≡ true → Each (λ x. f x ≡ true) xs
all_each f [] e = tt
all_each f (x ∷ xs) e = ((and_parts (f x) (list_all f xs) e).0, all_each f xs (and_parts (f x) (list_all f xs) e).1)

pub each_all : {A : Type 0} (f : A → Bool) (xs : List A) → Each (λ x. f x ≡ true) xs → list_all f xs ≡ true
each_all f [] e = refl
each_all f (x ∷ xs) e = and_from (f x) (list_all f xs) e.0 (each_all f xs e.1)

pub none_each : {A : Type 0} (f : A → Bool) (xs : List A) → list_any f xs ≡ false → Each (λ x. f x ≡ false) xs
none_each f [] e = tt
none_each f (x ∷ xs) e = ((or_parts (f x) (list_any f xs) e).0, none_each f xs (or_parts (f x) (list_any f xs) e).1)

pub each_map : {A : Type 0} (P Q : A → Type 0) (xs : List A) → ((x : A) → P x → Q x) → Each P xs → Each Q xs
each_map P Q [] g e = tt
each_map P Q (x ∷ xs) g e = (g x e.0, each_map P Q xs g e.1)

pub each_both : {A : Type 0} (P Q R : A → Type 0) (xs : List A) → ((x : A) → P x → Q x → R x) → Each P xs → Each Q xs → Each R xs
each_both P Q R [] g e d = tt
each_both P Q R (x ∷ xs) g e d = (g x e.0 d.0, each_both P Q R xs g e.1 d.1)

pub any_same : {A : Type 0} (f g : A → Bool) (xs : List A) → Each (λ x. f x ≡ g x) xs → list_any f xs ≡ list_any g xs
any_same f g [] e = refl
any_same f g (x ∷ xs) e = ap₂ ◌||◌ e.0 (any_same f g xs e.1)

pub all_same : {A : Type 0} (f g : A → Bool) (xs : List A) → Each (λ x. f x ≡ g x) xs → list_all f xs ≡ list_all g xs
all_same f g [] e = refl
all_same f g (x ∷ xs) e = ap₂ ◌&&◌ e.0 (all_same f g xs e.1)

pub map_same : {A B : Type 0} (f g : A → B) (xs : List A) → Each (λ x. f x ≡ g x) xs → map f xs ≡ map g xs
map_same f g [] e = refl
map_same f g (x ∷ xs) e = ap₂ {C = List _} (λ y ys. y ∷ ys) e.0 (map_same f g xs e.1)

-- ---- sets below 2 ^ 64

abbrev pub Small : List ℕ → Type 0
Small s = (i : ℕ) → get_or s i 0 < 2 ^ 64

pub proper_small : (s : List ℕ) → Proper s → Small s
proper_small s h i = elim (cases_lt i (length s)) [ inl l ↦ (h i l).1 | inr l ↦ subst (λ (x : ℕ). x < 2 ^ 64) (sym (get_or_past s i 0 l)) (lit< tt) ]

-- ---- one cut

pub length_cut : (i : ℕ) (f : ℕ → Bool) (s : List ℕ) → length (cut i f s) ≡ length s
unfolding cut
length_cut i f s = length-set s i (sift f (get_or s i 0))

pub cut_same_place : (i : ℕ) (f : ℕ → Bool) (s : List ℕ) → i < length s → get_or (cut i f s) i 0 ≡ sift f (get_or s i 0)
unfolding cut
cut_same_place i f s h = get_or-set_same s i (sift f (get_or s i 0)) 0 h

pub cut_other_place : (i j : ℕ) (f : ℕ → Bool) (s : List ℕ) → j ≢ i → get_or (cut i f s) j 0 ≡ get_or s j 0
unfolding cut
cut_other_place i j f s n = get_or-set_other s i j (sift f (get_or s i 0)) 0 n

pub cut_past : (i : ℕ) (f : ℕ → Bool) (s : List ℕ) → length s ≤ i → cut i f s ≡ s
unfolding cut
cut_past i f s h = set_past s i (sift f (get_or s i 0)) h

-- a cut at j, seen at i
pub cut_at : (P : ℕ → Type 0) (i j : ℕ) (f : ℕ → Bool) (s : List ℕ) → (i ≡ j → i < length s → P (sift f (get_or s i 0))) → P (get_or s i 0) → P (get_or (cut j f s) i 0)
cut_at P i j f s here there = elim (cases_eq i j) [
  | inl e ↦ elim (cases_lt j (length s)) [
    | inl l ↦ subst (λ (k : ℕ). P (get_or (cut j f s) k 0)) (sym e) (subst P (sym (cut_same_place j f s l)) (subst (λ (k : ℕ). P (sift f (get_or s k 0))) e (here e (subst (λ (k : ℕ). k < length s) (sym e) l))))
    | inr l ↦ subst (λ (x : List ℕ). P (get_or x i 0)) (sym (cut_past j f s l)) there
  ]
  | inr n ↦ subst P (sym (cut_other_place j i f s n)) there
]

pub cut_small : (j : ℕ) (f : ℕ → Bool) (s : List ℕ) → Small s → Small (cut j f s)
cut_small j f s h i = cut_at (λ x. x < 2 ^ 64) i j f s (λ _ _. sift_below f (get_or s i 0)) (h i)

pub narrower_refl : (s : List ℕ) → Narrower s s
narrower_refl s = record { long = refl; each = λ i v e. e }

pub narrower_trans : (t u s : List ℕ) → Narrower t u → Narrower u s → Narrower t s
narrower_trans t u s a b = record { long = a.long ∙ b.long; each = λ i v e. b.each i v (a.each i v e) }

pub cut_narrower : (j : ℕ) (f : ℕ → Bool) (s : List ℕ) → Narrower (cut j f s) s
cut_narrower j f s = record {
  long = length_cut j f s;
  each = λ i v. cut_at (λ x. has x v ≡ true → has (get_or s i 0) v ≡ true) i j f s (λ _ _ e. (sift_part f (get_or s i 0) v e).0) (λ e. e);
}

-- a placing whose value passes stays within
pub cut_within : (p s : List ℕ) (j : ℕ) (f : ℕ → Bool) → Small s → Within p s → f (get_or p j 0) ≡ true → Within p (cut j f s)
cut_within p s j f h w e = record {
  long = w.long ∙ sym (length_cut j f s);
  each = λ i l. cut_at (λ x. has x (get_or p i 0) ≡ true) i j f s (λ k b. kept i k (w.each i b)) (w.each i (subst (λ (n : ℕ). i < n) (length_cut j f s) l));
}
  where
    kept : (i : ℕ) → i ≡ j → has (get_or s i 0) (get_or p i 0) ≡ true → has (sift f (get_or s i 0)) (get_or p i 0) ≡ true
    kept i k b = has_sift f (get_or s i 0) (get_or p i 0) (has_below 64 (get_or s i 0) (get_or p i 0) (h i) b)
        ∙ and_from (has (get_or s i 0) (get_or p i 0)) (f (get_or p i 0)) b (ap (λ (x : ℕ). f (get_or p x 0)) k ∙ e)

-- a cut that changes nothing lets all values pass
pub cut_nothing : (j : ℕ) (f : ℕ → Bool) (s : List ℕ) (v : ℕ) → cut j f s ≡ s → j < length s → has (get_or s j 0) v ≡ true → f v ≡ true
cut_nothing j f s v e l b = (sift_part f (get_or s j 0) v (ap (λ (x : ℕ). has x v) (sym (cut_same_place j f s l) ∙ ap (λ (x : List ℕ). get_or x j 0) e) ∙ b)).1

pub cut_more : (j : ℕ) (f : ℕ → Bool) (s t : List ℕ) → j < length s → cut j f (s ++ t) ≡ cut j f s ++ t
unfolding cut
cut_more j f s t l = set-append_left s t j (sift f (get_or (s ++ t) j 0)) l ∙ ap (λ (x : ℕ). set s j (sift f x) ++ t) (get_or_append_left s t 0 j l)

-- ---- a cut for each member

pub cuts_small : (f : Member → ℕ → Bool) (ms : List Member) (s : List ℕ) → Small s → Small (cuts f ms s)
cuts_small f [] s h = h
cuts_small f (m ∷ ms) s h = cuts_small f ms (cut m.voice (f m) s) (cut_small m.voice (f m) s h)

pub cuts_narrower : (f : Member → ℕ → Bool) (ms : List Member) (s : List ℕ) → Narrower (cuts f ms s) s
cuts_narrower f [] s = narrower_refl s
cuts_narrower f (m ∷ ms) s =
    narrower_trans (cuts f ms (cut m.voice (f m) s)) (cut m.voice (f m) s) s (cuts_narrower f ms (cut m.voice (f m) s)) (cut_narrower m.voice (f m) s)

pub cuts_within : (p : List ℕ) (f : Member → ℕ → Bool) (ms : List Member) (s : List ℕ) → Small s → Within p s → Each (λ m. f m (at p m) ≡ true) ms → Within p (cuts f ms s)
cuts_within p f [] s h w e = w
cuts_within p f (m ∷ ms) s h w e =
    cuts_within p f ms (cut m.voice (f m) s) (cut_small m.voice (f m) s h) (cut_within p s m.voice (f m) h w e.0) e.1

abbrev pub Declared : ℕ → List Member → Type 0
Declared n ms = Each (λ m. m.voice < n) ms

pub cuts_more : (f : Member → ℕ → Bool) (ms : List Member) (s t : List ℕ) → Declared (length s) ms → cuts f ms (s ++ t) ≡ cuts f ms s ++ t
cuts_more f [] s t d = refl
cuts_more f (m ∷ ms) s t d =
    ap (cuts f ms) (cut_more m.voice (f m) s t d.0)
    ∙ cuts_more f ms (cut m.voice (f m) s) t (subst (λ (n : ℕ). Declared n ms) (sym (length_cut m.voice (f m) s)) d.1)

-- ---- where nothing is lost

-- what lies between a list and itself is that list
pub squeezed : (t u s : List ℕ) → Small u → Small s → Narrower t u → Narrower u s → t ≡ s → u ≡ s
squeezed t u s hu hs a b e = ext_get_or 0 u s b.long (λ i _. parts_same 64 (get_or u i 0) (get_or s i 0) (hu i) (hs i) (b.each i) (λ v k. a.each i v (ap (λ (x : List ℕ). has (get_or x i 0) v) e ∙ k)))

pub cuts_nothing : (f : Member → ℕ → Bool) (ms : List Member) (s : List ℕ) → Small s → Declared (length s) ms → cuts f ms s ≡ s
    → Each (λ m. (v : ℕ) → has (at s m) v ≡ true → f m v ≡ true) ms
cuts_nothing f [] s h d e = tt
cuts_nothing f (m ∷ ms) s h d e =
    let one : cut m.voice (f m) s ≡ s = squeezed (cuts f (m ∷ ms) s) (cut m.voice (f m) s) s (cut_small m.voice (f m) s h) h (cuts_narrower f ms (cut m.voice (f m) s)) (cut_narrower m.voice (f m) s) e in
    (λ v b. cut_nothing m.voice (f m) s v one d.0 b, cuts_nothing f ms s h d.1 (ap (cuts f ms) (sym one) ∙ e))

-- where all sets are fixed, a narrower list with no empty set is the same
none_empty : (t : List ℕ) (i : ℕ) → some_empty t ≡ false → i < length t → 0 < get_or t i 0
none_empty [] i e l = absurd (out i l)
  where
    out : (i : ℕ) → i < 0 → ⊥
    out i l = omega arith
none_empty (x ∷ t) zero e l = pos x (or_parts (eqb x 0) (some_empty t) e).0
  where
    pos : (x : ℕ) → eqb x 0 ≡ false → 0 < x
    pos zero e = absurd (both_ways (eqb 0 0) e refl)
    pos (suc x) e = omega arith
none_empty (x ∷ t) (suc i) e l = none_empty t i (or_parts (eqb x 0) (some_empty t) e).1 (omega arith)

pub fixed_place : (s : List ℕ) (i : ℕ) → all_fixed s ≡ true → i < length s → fixed (get_or s i 0) ≡ true
fixed_place [] i e l = absurd (out i l)
  where
    out : (i : ℕ) → i < 0 → ⊥
    out i l = omega arith
fixed_place (x ∷ s) zero e l = (and_parts (fixed x) (all_fixed s) e).0
fixed_place (x ∷ s) (suc i) e l = fixed_place s i (and_parts (fixed x) (all_fixed s) e).1 (omega arith)

pub nothing_lost : (t s : List ℕ) → Small t → Small s → Narrower t s → all_fixed s ≡ true → some_empty t ≡ false → t ≡ s
nothing_lost t s ht hs n f e =
    ext_get_or 0 t s n.long (λ i l. fixed_part (get_or t i 0) (get_or s i 0) (none_empty t i e l) (ht i) (hs i) (fixed_place s i f (subst (λ (k : ℕ). i < k) n.long l)) (n.each i))
