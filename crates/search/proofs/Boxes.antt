-- Lists of sets, and the placings within them.
use Rattle.std.proofs.Common.{◌≡◌, ℕ, zero, suc, ◌*◌, ◌<◌, ◌≤◌, true, false, eqb, List, [], ◌∷◌, length, get_or, sym, refl, ◌∙◌, subst, ap₂, inl, inr, le_antisymm, arith}
use Rattle.std.proofs.lemmas.Bool.{eqb-true, eqb-false, both_ways, ne_eqb, or_cases, or_from, or_parts, and_parts}
use Rattle.std.proofs.lemmas.List.{ext_get_or}
use Rattle.sets.specs.Sets.{has, fixed}
use Rattle.sets.specs.Laws.{Word}
use Rattle.sets.specs.Placings.{some_empty, all_fixed, values, Proper, Within, Narrower}
use lib.Count.{ones-le}
use Rattle.sets.proofs.Membership.{part_below, ones_part}
use Rattle.search.specs.Propagation.{size}
use Rattle.search.proofs.SetParts.{empty_has, fixed_one}
use Rattle.sets.proofs.Lists.{values_within}

pub narrow_trans : (u t s : List ℕ) → Narrower u t → Narrower t s → Narrower u s
narrow_trans u t s a b = record { long = a.long ∙ b.long; each = λ i v h. b.each i v (a.each i v h) }

pub narrow_refl : (s : List ℕ) → Narrower s s
narrow_refl s = record { long = refl; each = λ i v h. h }

pub within_narrow : (p t s : List ℕ) → Narrower t s → Within p t → Within p s
within_narrow p t s n w =
    record { long = w.long ∙ n.long; each = λ i l. n.each i (get_or p i 0) (w.each i (omega (arith, n.long))) }

-- a list of sets with an empty one has no placing, and one without has all of them above 0
pub empty_none : (s p : List ℕ) → some_empty s ≡ true → Within p s → ⊥
empty_none s p e w = go s (λ i. get_or p i 0) e w.each
  where
    go : (s : List ℕ) (f : ℕ → ℕ) → some_empty s ≡ true → ((i : ℕ) → i < length s → has (get_or s i 0) (f i) ≡ true) → ⊥
    go [] f e w = both_ways false refl e
    go (x ∷ s) f e w =
        elim (or_cases (eqb x 0) (some_empty s) e) [
          | inl z ↦ empty_has (f 0) (subst (λ (y : ℕ). has y (f 0) ≡ true) (eqb-true x 0 z) (w 0 (omega arith)))
          | inr z ↦ go s (λ i. f (suc i)) z (λ i l. w (suc i) (omega arith))
        ]

pub full : (s : List ℕ) → some_empty s ≡ false → (i : ℕ) → i < length s → 0 < get_or s i 0
full [] e i l = absurd (omega arith)
full (x ∷ s) e zero l = omega (arith, eqb-false x 0 (or_parts (eqb x 0) (some_empty s) e).0)
full (x ∷ s) e (suc i) l = full s (or_parts (eqb x 0) (some_empty s) e).1 i (omega arith)

pub proper_full : (s : List ℕ) → Proper s → some_empty s ≡ false
proper_full [] p = refl
proper_full (x ∷ s) p =
    or_from (eqb x 0) (some_empty s) (ne_eqb x 0 (λ e. omega (arith, p 0 (omega arith)))) (proper_full s (λ i l. p (suc i) (omega arith)))

-- each set is one of 64 bits
abbrev pub Words : List ℕ → Type 0
Words s = (i : ℕ) → i < length s → Word (get_or s i 0)

pub proper_words : (s : List ℕ) → Proper s → Words s
proper_words s p i l = (p i l).1

words_tail : (x : ℕ) (s : List ℕ) → Words (x ∷ s) → Words s
words_tail x s h i l = h (suc i) (omega arith)

pub proper_narrow : (t s : List ℕ) → Narrower t s → Proper s → some_empty t ≡ false → Proper t
proper_narrow t s n p e i l =
    (full t e i l, part_below 64 (get_or t i 0) (get_or s i 0) (p i (omega (arith, n.long))).1 (n.each i))

narrow_tail : (x y : ℕ) (t s : List ℕ) → Narrower (x ∷ t) (y ∷ s) → Narrower t s
narrow_tail x y t s n = record { long = omega (arith, n.long); each = λ i. n.each (suc i) }

-- ---- how many values there are in all

pub size_le : (t s : List ℕ) → Words s → Narrower t s → size t ≤ size s
size_le [] s b n = omega arith
size_le (x ∷ t) [] b n = absurd (omega (arith, n.long))
size_le (x ∷ t) (y ∷ s) b n =
    let w = b 0 (omega arith) in
    omega (arith, (ones_part 64 x y (part_below 64 x y w (n.each 0)) w (n.each 0)).0, size_le t s (words_tail y s b) (narrow_tail x y t s n))

pub size_same : (t s : List ℕ) → Words s → Narrower t s → size s ≤ size t → t ≡ s
size_same [] [] b n h = refl
size_same [] (y ∷ s) b n h = absurd (omega (arith, n.long))
size_same (x ∷ t) [] b n h = absurd (omega (arith, n.long))
size_same (x ∷ t) (y ∷ s) b n h =
    let w = b 0 (omega arith) in
    let a = ones_part 64 x y (part_below 64 x y w (n.each 0)) w (n.each 0) in
    let tail = narrow_tail x y t s n in
    let c = size_le t s (words_tail y s b) tail in
    ap₂ (λ (z : ℕ) (u : List ℕ). z ∷ u) (a.1 (le_antisymm a.0 (omega (arith, a.0)))) (size_same t s (words_tail y s b) tail (omega (arith, a.0)))

pub size_most : (s : List ℕ) → Words s → size s ≤ 64 * length s
size_most [] b = omega arith
size_most (x ∷ s) b = omega (arith, ones-le 64 x (b 0 (omega arith)), size_most s (words_tail x s b))

-- ---- fixed sets

pub each_fixed : (s : List ℕ) → all_fixed s ≡ true → (i : ℕ) → i < length s → fixed (get_or s i 0) ≡ true
each_fixed [] e i l = absurd (omega arith)
each_fixed (x ∷ s) e zero l = (and_parts (fixed x) (all_fixed s) e).0
each_fixed (x ∷ s) e (suc i) l = each_fixed s (and_parts (fixed x) (all_fixed s) e).1 i (omega arith)

pub values_only : (s q : List ℕ) → Proper s → all_fixed s ≡ true → Within q s → q ≡ values s
values_only s q p e w =
    let v = values_within s p in
    ext_get_or 0 q (values s) (w.long ∙ sym v.long)
    (λ i l.
    let h : i < length s = omega (arith, w.long) in
    fixed_one (get_or s i 0) (get_or q i 0) (get_or (values s) i 0) (p i h).1 (each_fixed s e i h) (w.each i h) (v.each i h))
