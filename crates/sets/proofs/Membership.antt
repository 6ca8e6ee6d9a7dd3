-- Sets of values as numbers: what `has`, `ones`, `least`, `greatest`, `only`, `mask` and a removal say of one another.
use Rattle.std.proofs.Common.{◌≡◌, ℕ, zero, suc, ◌+◌, ◌-◌, ◌*◌, ◌/◌, ◌%◌, ◌^◌, ◌<◌, ◌≤◌, Bool, true, false, cond, not, ◌&&◌, eqb, ◌≢◌, ◌⊎◌, sym, refl, ap, ◌∙◌, subst, ap₂, inl, inr, suc-le-suc, zero-le, le_of_eq, lt_of_lt_of_le, le_of_suc-le-suc, mod-lt, le_antisymm, pow-suc, arith, lit<, pow_pos, pow_mono, shr-shr}
use lib.Dec.{eqb-suc-suc}
use lib.Arith.{lt_of_le-ne}
use lib.Pow.{pow-lt}
use lib.Bits.{bit_and, and_shr, and_mod}
use lib.Count.{ones, count_trailing_zeros, under, ones_step, ones-le, leading_top}
use Rattle.std.proofs.lemmas.Bool.{eqb-true, eqb-false, eq-eqb, ne_eqb, cases_lt, both_ways, and_parts, not-true}
use Rattle.std.proofs.lemmas.Bool.Decides.{nat_tests}
use Rattle.sets.specs.Sets.{has, fixed, least, only, greatest, mask, sift}

-- ---- digit by digit

pub has_suc : (s v : ℕ) → has s (suc v) ≡ has (s / 2) v
has_suc s v = ap (λ (x : ℕ). eqb (x % 2) 1) (ap (λ (k : ℕ). s / 2 ^ k) (one_more v) ∙ sym (shr-shr s 1 v))
  where
    one_more : (v : ℕ) → suc v ≡ 1 + v
    one_more v = omega arith

pub has_zero : (s : ℕ) → has s zero ≡ eqb (s % 2) 1
has_zero s = ap (λ (x : ℕ). eqb (x % 2) 1) (whole s)
  where
    whole : (s : ℕ) → s / 1 ≡ s
    whole s = omega arith

half_below : (k s : ℕ) → s < 2 ^ suc k → s / 2 < 2 ^ k
half_below k s h = omega (arith, pow-suc 2 k)

two_below : (k s : ℕ) → s / 2 < 2 ^ k → s < 2 ^ suc k
two_below k s h = omega (arith, pow-suc 2 k)

-- no number is in 0
pub has_none : (v : ℕ) → has zero v ≡ false
has_none zero = refl
has_none (suc v) = has_suc zero v ∙ has_none v

-- a set below 2 ^ k has no value from k on
pub has_above : (k s v : ℕ) → s < 2 ^ k → k ≤ v → has s v ≡ false
has_above zero s v h l = ap (λ (x : ℕ). has x v) (none s h) ∙ has_none v
  where
    none : (s : ℕ) → s < 1 → s ≡ zero
    none s h = omega arith
has_above (suc k) s zero h l = absurd (no_room k l)
  where
    no_room : (k : ℕ) → suc k ≤ zero → ⊥
    no_room k l = omega arith
has_above (suc k) s (suc v) h l = has_suc s v ∙ has_above k (s / 2) v (half_below k s h) (le_of_suc-le-suc l)

pub has_below : (k s v : ℕ) → s < 2 ^ k → has s v ≡ true → v < k
has_below k s v h e = elim (cases_lt v k) [ inl x ↦ x | inr y ↦ absurd (both_ways (has s v) (has_above k s v h y) e) ]

-- two sets with the same values are the same
same_digit : (a b : ℕ) → a < 2 → b < 2 → eqb a 1 ≡ eqb b 1 → a ≡ b
same_digit a b h l e = grind (arith, nat_tests)

pub same_sets : (k s t : ℕ) → s < 2 ^ k → t < 2 ^ k → ((v : ℕ) → v < k → has s v ≡ has t v) → s ≡ t
same_sets zero s t h l e = omega arith
same_sets (suc k) s t h l e =
    let high : s / 2 ≡ t / 2 = same_sets k (s / 2) (t / 2) (half_below k s h) (half_below k t l) (λ v b. sym (has_suc s v) ∙ e (suc v) (omega arith) ∙ has_suc t v) in
    let lower : s % 2 ≡ t % 2 = same_digit (s % 2) (t % 2) (omega arith) (omega arith) (sym (has_zero s) ∙ e zero (omega arith) ∙ has_zero t) in
    omega arith

-- ---- the set of the values that pass

mask_half : (k : ℕ) (f : ℕ → Bool) → mask (suc k) f / 2 ≡ mask k (λ v. f (suc v))
unfolding mask
mask_half k f = go (f zero) (mask k (λ v. f (suc v)))
  where
    go : (b : Bool) (n : ℕ) → (cond b 1 0 + 2 * n) / 2 ≡ n
    go true n = omega arith
    go false n = omega arith

mask_odd : (k : ℕ) (f : ℕ → Bool) → eqb (mask (suc k) f % 2) 1 ≡ f zero
unfolding mask
mask_odd k f = go (f zero) (mask k (λ v. f (suc v)))
  where
    go : (b : Bool) (n : ℕ) → eqb ((cond b 1 0 + 2 * n) % 2) 1 ≡ b
    go true n = eq-eqb ((1 + 2 * n) % 2) 1 (omega arith)
    go false n = ne_eqb ((0 + 2 * n) % 2) 1 (λ e. omega arith)

pub mask_below : (k : ℕ) (f : ℕ → Bool) → mask k f < 2 ^ k
mask_below zero f = unfold mask in lit< tt
mask_below (suc k) f = two_below k (mask (suc k) f) (subst (λ (x : ℕ). x < 2 ^ k) (sym (mask_half k f)) (mask_below k (λ v. f (suc v))))

pub has_mask : (k : ℕ) (f : ℕ → Bool) (v : ℕ) → v < k → has (mask k f) v ≡ f v
has_mask zero f v h = absurd (not_below v h)
  where
    not_below : (v : ℕ) → v < zero → ⊥
    not_below v h = omega arith
has_mask (suc k) f zero h = has_zero (mask (suc k) f) ∙ mask_odd k f
has_mask (suc k) f (suc v) h =
    has_suc (mask (suc k) f) v ∙ ap (λ (x : ℕ). has x v) (mask_half k f) ∙ has_mask k (λ w. f (suc w)) v (le_of_suc-le-suc h)

pub sift_below : (f : ℕ → Bool) (s : ℕ) → sift f s < 2 ^ 64
unfolding sift
sift_below f s = mask_below 64 (λ v. has s v && f v)

pub has_sift : (f : ℕ → Bool) (s v : ℕ) → v < 64 → has (sift f s) v ≡ (has s v && f v)
unfolding sift
has_sift f s v h = has_mask 64 (λ w. has s w && f w) v h

-- ---- one value alone

pub has_only : (v w : ℕ) → has (only v) w ≡ eqb w v
has_only zero zero = refl
has_only zero (suc w) = has_suc 1 w ∙ has_none w ∙ sym (ne_eqb (suc w) zero (λ e. omega arith))
has_only (suc v) zero = has_zero (2 ^ suc v) ∙ ne_eqb (2 ^ suc v % 2) 1 (λ e. omega (arith, pow-suc 2 v)) ∙ sym (ne_eqb zero (suc v) (λ e. omega arith))
has_only (suc v) (suc w) =
    has_suc (2 ^ suc v) w ∙ ap (λ (x : ℕ). has x w) (halved v) ∙ has_only v w ∙ sym (eqb-suc-suc w v)
  where
    halved : (v : ℕ) → 2 ^ suc v / 2 ≡ 2 ^ v
    halved v = omega (arith, pow-suc 2 v)

pub only_below : (v : ℕ) → v < 64 → only v < 2 ^ 64
only_below v h = pow-lt h

pub only_pos : (v : ℕ) → 0 < only v
only_pos v = pow_pos v

-- ---- how many values

pub ones_zero : ones zero ≡ zero
ones_zero = unfold ones in refl

-- a part has no more values, and the whole where it has as many
part_digit : (a b : ℕ) → a < 2 → b < 2 → (eqb a 1 ≡ true → eqb b 1 ≡ true) → a ≤ b
part_digit a b h l e = grind (arith, nat_tests)

pub ones_part : (k t s : ℕ) → t < 2 ^ k → s < 2 ^ k → ((v : ℕ) → has t v ≡ true → has s v ≡ true) → (ones t ≤ ones s) × (ones t ≡ ones s → t ≡ s)
ones_part zero t s h l e =
    let same : t ≡ s = omega arith in
    (le_of_eq (ap ones same), λ _. same)
ones_part (suc k) t s h l e =
    let rest = ones_part k (t / 2) (s / 2) (half_below k t h) (half_below k s l) (λ v b. sym (has_suc s v) ∙ e (suc v) (has_suc t v ∙ b)) in
    let r0 : ones (t / 2) ≤ ones (s / 2) = rest.0 in
    let digit : t % 2 ≤ s % 2 = part_digit (t % 2) (s % 2) (omega arith) (omega arith) (λ b. sym (has_zero s) ∙ e zero (has_zero t ∙ b)) in
    let p = ones_step t in
    let q = ones_step s in
    (omega arith, λ same. let high : t / 2 ≡ s / 2 = rest.1 (omega arith) in omega arith)

-- a part that is another has fewer
pub ones_fewer : (k t s : ℕ) → t < 2 ^ k → s < 2 ^ k → ((v : ℕ) → has t v ≡ true → has s v ≡ true) → t ≢ s → ones t < ones s
ones_fewer k t s h l e ne =
    let p = ones_part k t s h l e in
    lt_of_le-ne p.0 (λ same. ne (p.1 same))

-- two parts of one another are the same
pub parts_same : (k t s : ℕ) → t < 2 ^ k → s < 2 ^ k → ((v : ℕ) → has t v ≡ true → has s v ≡ true) → ((v : ℕ) → has s v ≡ true → has t v ≡ true) → t ≡ s
parts_same k t s h l e d = (ones_part k t s h l e).1 (le_antisymm (ones_part k t s h l e).0 (ones_part k s t l h d).0)

-- only the set with no value has none
pub none_zero : (k s : ℕ) → s < 2 ^ k → ((v : ℕ) → has s v ≡ false) → s ≡ zero
none_zero k s h e = parts_same k s zero h (pow_pos k) (λ v b. absurd (both_ways (has s v) (e v) b)) (λ v b. absurd (both_ways (has zero v) (has_none v) b))

pub has_pos : (s v : ℕ) → has s v ≡ true → 0 < s
has_pos zero v e = absurd (both_ways (has zero v) (has_none v) e)
has_pos (suc s) v e = omega arith

-- ---- the least value

-- the least value is one, and no value is below it
record Least (k s : ℕ) : Type 0 where
  is : has s (count_trailing_zeros k s) ≡ true
  first : (v : ℕ) → has s v ≡ true → count_trailing_zeros k s ≤ v

digit_cases : (s : ℕ) → (s % 2 ≡ 0) ⊎ (s % 2 ≡ 1)
digit_cases s = go (s % 2) (mod-lt s (lit< tt))
  where
    go : (d : ℕ) → d < 2 → (d ≡ 0) ⊎ (d ≡ 1)
    go zero h = inl refl
    go (suc d) h = inr (omega arith)

trailing_even : (k s : ℕ) → s % 2 ≡ 0 → count_trailing_zeros (suc k) s ≡ suc (count_trailing_zeros k (s / 2))
unfolding count_trailing_zeros
trailing_even k s e = ap (λ (d : ℕ). under d (count_trailing_zeros k (s / 2))) e

trailing_odd : (k s : ℕ) → s % 2 ≡ 1 → count_trailing_zeros (suc k) s ≡ zero
unfolding count_trailing_zeros
trailing_odd k s e = ap (λ (d : ℕ). under d (count_trailing_zeros k (s / 2))) e

least_step : (k s : ℕ) → (0 < s / 2 → Least k (s / 2)) → 0 < s → Least (suc k) s
least_step k s rest p = elim (digit_cases s) [ inl e ↦ even e (rest (omega arith)) | inr e ↦ odd e ]
  where
    past : (s v : ℕ) → s % 2 ≡ 0 → has s zero ≡ true → ⊥
    past s v e b = omega (arith, eqb-true (s % 2) 1 (sym (has_zero s) ∙ b))

    first : (v : ℕ) → s % 2 ≡ 0 → Least k (s / 2) → has s v ≡ true → suc (count_trailing_zeros k (s / 2)) ≤ v
    first zero e l b = absurd (past s zero e b)
    first (suc v) e l b = suc-le-suc (l.first v (sym (has_suc s v) ∙ b))

    even : s % 2 ≡ 0 → Least k (s / 2) → Least (suc k) s
    even e l = record {
      is = ap (has s) (trailing_even k s e) ∙ has_suc s (count_trailing_zeros k (s / 2)) ∙ l.is;
      first = λ v b. subst (λ (x : ℕ). x ≤ v) (sym (trailing_even k s e)) (first v e l b);
    }

    odd : s % 2 ≡ 1 → Least (suc k) s
    odd e = record {
      is = ap (has s) (trailing_odd k s e) ∙ has_zero s ∙ eq-eqb (s % 2) 1 e;
      first = λ v b. subst (λ (x : ℕ). x ≤ v) (sym (trailing_odd k s e)) zero-le;
    }

least_both : (k s : ℕ) → 0 < s → s < 2 ^ k → Least k s
least_both zero s p h = absurd (none s p h)
  where
    none : (s : ℕ) → 0 < s → s < 1 → ⊥
    none s p h = omega arith
least_both (suc k) s p h = least_step k s (λ q. least_both k (s / 2) q (half_below k s h)) p

pub has_least : (s : ℕ) → 0 < s → s < 2 ^ 64 → has s (least s) ≡ true
has_least s p h = (least_both 64 s p h).is

pub least_first : (s v : ℕ) → s < 2 ^ 64 → has s v ≡ true → least s ≤ v
least_first s v h e = (least_both 64 s (has_pos s v e) h).first v e

pub least_below : (s : ℕ) → 0 < s → s < 2 ^ 64 → least s < 64
least_below s p h = has_below 64 s (least s) h (has_least s p h)

-- ---- the greatest value

has_top : (s j : ℕ) → 2 ^ j ≤ s → s < 2 ^ suc j → has s j ≡ true
has_top s zero h l = has_zero s ∙ eq-eqb (s % 2) 1 (omega arith)
has_top s (suc j) h l = has_suc s j ∙ has_top (s / 2) j (omega (arith, pow-suc 2 j)) (half_below (suc j) s l)

top_is : (s : ℕ) → 0 < s → s < 2 ^ 64 → (has s (greatest s) ≡ true) × (s < 2 ^ suc (greatest s))
top_is s p h =
    let t = leading_top 64 s p h in
    let e : greatest s ≡ t.0 = omega (arith, t.1) in
    (ap (has s) e ∙ has_top s t.0 t.2 t.3, subst (λ (x : ℕ). s < 2 ^ suc x) (sym e) t.3)

pub has_greatest : (s : ℕ) → 0 < s → s < 2 ^ 64 → has s (greatest s) ≡ true
has_greatest s p h = (top_is s p h).0

pub greatest_last : (s v : ℕ) → s < 2 ^ 64 → has s v ≡ true → v ≤ greatest s
greatest_last s v h e = le_of_suc-le-suc (has_below (suc (greatest s)) s v (top_is s (has_pos s v e) h).1 e)

-- ---- fixed: one value, the least

ones_only : (v : ℕ) → ones (only v) ≡ 1
ones_only zero = unfold ones in refl
ones_only (suc v) = ones_step (2 ^ suc v) ∙ ap₂ (λ (x y : ℕ). x + ones y) (even v) (halved v) ∙ omega (arith, ones_only v)
  where
    even : (v : ℕ) → 2 ^ suc v % 2 ≡ 0
    even v = omega (arith, pow-suc 2 v)

    halved : (v : ℕ) → 2 ^ suc v / 2 ≡ 2 ^ v
    halved v = omega (arith, pow-suc 2 v)

pub fixed_only : (v : ℕ) → fixed (only v) ≡ true
fixed_only v = eq-eqb (ones (only v)) 1 (ones_only v)

-- a set that has v and as many values as {v} is {v}
only_part : (k s v : ℕ) → s < 2 ^ k → v < k → has s v ≡ true → (w : ℕ) → has (only v) w ≡ true → has s w ≡ true
only_part k s v h l e w b = ap (has s) (eqb-true w v (sym (has_only v w) ∙ b)) ∙ e

pub fixed_is : (s v : ℕ) → s < 2 ^ 64 → fixed s ≡ true → has s v ≡ true → s ≡ only v
fixed_is s v h f e =
    let l = has_below 64 s v h e in
    sym ((ones_part 64 (only v) s (only_below v l) h (only_part 64 s v h l e)).1 (ones_only v ∙ sym (eqb-true (ones s) 1 f)))

pub fixed_pos : (s : ℕ) → fixed s ≡ true → 0 < s
fixed_pos zero f = absurd (none (eqb-true (ones zero) 1 f))
  where
    none : ones zero ≡ 1 → ⊥
    none e = omega (arith, ones_zero)
fixed_pos (suc s) f = omega arith

pub fixed_least : (s : ℕ) → s < 2 ^ 64 → fixed s ≡ true → s ≡ only (least s)
fixed_least s h f = fixed_is s (least s) h f (has_least s (fixed_pos s f) h)

pub fixed_member : (s v : ℕ) → s < 2 ^ 64 → fixed s ≡ true → has s v ≡ true → v ≡ least s
fixed_member s v h f e = eqb-true v (least s) (sym (has_only (least s) v) ∙ ap (λ (x : ℕ). has x v) (sym (fixed_least s h f)) ∙ e)

-- exactly one value, then fixed
pub one_fixed : (s v : ℕ) → s < 2 ^ 64 → has s v ≡ true → ((w : ℕ) → has s w ≡ true → w ≡ v) → fixed s ≡ true
one_fixed s v h e u =
    let l = has_below 64 s v h e in
    ap fixed (parts_same 64 s (only v) h (only_below v l) (λ w b. has_only v w ∙ eq-eqb w v (u w b)) (only_part 64 s v h l e)) ∙ fixed_only v

-- a part that is not empty of a fixed set is that set
pub fixed_part : (t s : ℕ) → 0 < t → t < 2 ^ 64 → s < 2 ^ 64 → fixed s ≡ true → ((v : ℕ) → has t v ≡ true → has s v ≡ true) → t ≡ s
fixed_part t s p h l f e =
    let v = least t in
    let here = has_least t p h in
    parts_same 64 t s h l e (λ w b. ap (has t) (fixed_member s w l f b ∙ sym (fixed_member s (least t) l f (e (least t) here))) ∙ here)

-- ---- one value more or less

pub ones_less : (k s t v : ℕ) → s < 2 ^ k → t < 2 ^ k → has s v ≡ true → has t v ≡ false → ((w : ℕ) → w ≢ v → has s w ≡ has t w) → ones s ≡ suc (ones t)
ones_less zero s t v h l e d u = absurd (both_ways (has s v) (has_above zero s v h zero-le) e)
ones_less (suc k) s t zero h l e d u =
    let high : s / 2 ≡ t / 2 = same_sets k (s / 2) (t / 2) (half_below k s h) (half_below k t l) (λ w _. sym (has_suc s w) ∙ u (suc w) (λ (n : suc w ≡ 0). omega arith) ∙ has_suc t w) in
    let one : s % 2 ≡ 1 = eqb-true (s % 2) 1 (sym (has_zero s) ∙ e) in
    let none : s % 2 ≡ t % 2 → ⊥ = λ same. eqb-false (t % 2) 1 (sym (has_zero t) ∙ d) (sym same ∙ one) in
    let p : ones s ≡ s % 2 + ones (t / 2) = ones_step s ∙ ap (λ (x : ℕ). s % 2 + ones x) high in
    let q = ones_step t in
    omega arith
ones_less (suc k) s t (suc v) h l e d u =
    let high : ones (s / 2) ≡ suc (ones (t / 2)) = ones_less k (s / 2) (t / 2) v (half_below k s h) (half_below k t l) (sym (has_suc s v) ∙ e) (sym (has_suc t v) ∙ d)
    (λ w n. sym (has_suc s w) ∙ u (suc w) (λ (m : suc w ≡ suc v). n (omega arith)) ∙ has_suc t w) in
    let lower : s % 2 ≡ t % 2 = same_digit (s % 2) (t % 2) (omega arith) (omega arith) (sym (has_zero s) ∙ u zero (λ (m : 0 ≡ suc v). omega arith) ∙ has_zero t) in
    let p = ones_step s in
    let q = ones_step t in
    omega arith

-- ---- a value taken out

-- where s has v, s less 2 ^ v is s without v
even_less : (s v : ℕ) → 2 ^ suc v ≤ s → ((s - 2 ^ suc v) / 2 ≡ s / 2 - 2 ^ v) × ((s - 2 ^ suc v) % 2 ≡ s % 2)
even_less s v h = omega (arith, pow-suc 2 v)

pub has_at_least : (s v : ℕ) → has s v ≡ true → only v ≤ s
has_at_least s zero e = has_pos s zero e
has_at_least s (suc v) e = omega (arith, pow-suc 2 v, has_at_least (s / 2) v (sym (has_suc s v) ∙ e))

pub has_less : (s v w : ℕ) → has s v ≡ true → has (s - only v) w ≡ (has s w && not (eqb w v))
has_less s zero zero e = has_zero (s - 1) ∙ ne_eqb ((s - 1) % 2) 1 (λ n. omega (arith, eqb-true (s % 2) 1 (sym (has_zero s) ∙ e))) ∙ sym (and_no (has s zero))
  where
    and_no : (b : Bool) → (b && false) ≡ false
    and_no true = refl
    and_no false = refl
has_less s zero (suc w) e =
    has_suc (s - 1) w ∙ ap (λ (x : ℕ). has x w) (halved s (eqb-true (s % 2) 1 (sym (has_zero s) ∙ e))) ∙ sym (has_suc s w)
    ∙ sym (ap (λ (b : Bool). has s (suc w) && not b) (ne_eqb (suc w) zero (λ (n : suc w ≡ 0). omega arith)) ∙ and_yes (has s (suc w)))
  where
    halved : (s : ℕ) → s % 2 ≡ 1 → (s - 1) / 2 ≡ s / 2
    halved s h = omega arith

    and_yes : (b : Bool) → (b && true) ≡ b
    and_yes true = refl
    and_yes false = refl
has_less s (suc v) zero e =
    has_zero (s - 2 ^ suc v) ∙ ap (λ (x : ℕ). eqb x 1) (even_less s v (has_at_least s (suc v) e)).1 ∙ sym (has_zero s)
    ∙ sym (ap (λ (b : Bool). has s zero && not b) (ne_eqb zero (suc v) (λ (n : 0 ≡ suc v). omega arith)) ∙ and_yes (has s zero))
  where
    and_yes : (b : Bool) → (b && true) ≡ b
    and_yes true = refl
    and_yes false = refl
has_less s (suc v) (suc w) e =
    has_suc (s - 2 ^ suc v) w ∙ ap (λ (x : ℕ). has x w) (even_less s v (has_at_least s (suc v) e)).0
    ∙ has_less (s / 2) v w (sym (has_suc s v) ∙ e) ∙ ap₂ (λ (a b : Bool). a && not b) (sym (has_suc s w)) (sym (eqb-suc-suc w v))

pub ones_without : (s v : ℕ) → s < 2 ^ 64 → has s v ≡ true → ones s ≡ suc (ones (s - only v))
ones_without s v h e =
    ones_less 64 s (s - only v) v h (omega arith) e (has_less s v v e ∙ ap₂ (λ (a b : Bool). a && not b) e (eq-eqb v v refl))
    (λ w n. sym (has_less s v w e ∙ ap (λ (b : Bool). has s w && not b) (ne_eqb w v n) ∙ and_yes (has s w)))
  where
    and_yes : (b : Bool) → (b && true) ≡ b
    and_yes true = refl
    and_yes false = refl

-- all values, and the bits of `s & !(1 << v)`
pub has_all : (k w : ℕ) → w < k → has (2 ^ k - 1) w ≡ true
has_all zero w h = absurd (not_below w h)
  where
    not_below : (w : ℕ) → w < 0 → ⊥
    not_below w h = omega arith
has_all (suc k) zero h = has_zero (2 ^ suc k - 1) ∙ eq-eqb ((2 ^ suc k - 1) % 2) 1 (omega (arith, pow-suc 2 k, pow_pos k))
has_all (suc k) (suc w) h = has_suc (2 ^ suc k - 1) w ∙ ap (λ (x : ℕ). has x w) (halved k) ∙ has_all k w (le_of_suc-le-suc h)
  where
    halved : (k : ℕ) → (2 ^ suc k - 1) / 2 ≡ 2 ^ k - 1
    halved k = omega (arith, pow-suc 2 k, pow_pos k)

pub has_and : (a b v : ℕ) → has (bit_and a b) v ≡ (has a v && has b v)
has_and a b v =
    ap (λ (x : ℕ). eqb (x % 2) 1) (and_shr a b v) ∙ ap (λ (x : ℕ). eqb x 1) (and_mod (a / 2 ^ v) (b / 2 ^ v) 1)
    ∙ digits ((a / 2 ^ v) % 2) ((b / 2 ^ v) % 2) (digit_cases (a / 2 ^ v)) (digit_cases (b / 2 ^ v))
  where
    digits : (x y : ℕ) → (x ≡ 0) ⊎ (x ≡ 1) → (y ≡ 0) ⊎ (y ≡ 1) → eqb (bit_and x y) 1 ≡ (eqb x 1 && eqb y 1)
    digits x y (inl p) q = rw p
    digits x y (inr p) (inl q) = rw (p, q)
    digits x y (inr p) (inr q) = rw (p, q)

-- and so is s less 2 ^ v, where s has v
pub less_only : (s v : ℕ) → s < 2 ^ 64 → has s v ≡ true → s - only v ≡ sift (λ w. not (eqb w v)) s
less_only s v h e =
    same_sets 64 (s - only v) (sift (λ w. not (eqb w v)) s) (omega arith) (sift_below (λ w. not (eqb w v)) s)
    (λ w b. has_less s v w e ∙ sym (has_sift (λ w. not (eqb w v)) s w b))

-- ---- some value, and how many

pub ones_all : (s : ℕ) → s < 2 ^ 64 → ones s ≤ 64
ones_all s h = ones-le 64 s h

-- a set that passes whole stays as it is
pub sift_all : (f : ℕ → Bool) (s : ℕ) → s < 2 ^ 64 → ((v : ℕ) → has s v ≡ true → f v ≡ true) → sift f s ≡ s
sift_all f s h e =
    same_sets 64 (sift f s) s (sift_below f s) h (λ v b. has_sift f s v b ∙ go v (has s v) refl)
  where
    go : (v : ℕ) (b : Bool) → has s v ≡ b → (b && f v) ≡ b
    go v true k = e v k
    go v false k = refl

pub sift_part : (f : ℕ → Bool) (s v : ℕ) → has (sift f s) v ≡ true → (has s v ≡ true) × (f v ≡ true)
sift_part f s v e = and_parts (has s v) (f v) (sym (has_sift f s v (has_below 64 (sift f s) v (sift_below f s) e)) ∙ e)

-- a set that is neither empty nor fixed has a value above its least
pub above_least : (s w : ℕ) → 0 < s → s < 2 ^ 64 → has (s - only (least s)) w ≡ true → (has s w ≡ true) × (least s < w)
above_least s w p h e =
    let b = and_parts (has s w) (not (eqb w (least s))) (sym (has_less s (least s) w (has_least s p h)) ∙ e) in
    (b.0, lt_of_le-ne (least_first s w h b.0) (λ k. both_ways (eqb w (least s)) (not-true (eqb w (least s)) b.1) (eq-eqb w (least s) (sym k))))

-- a part of a set below 2 ^ k is below 2 ^ k
own_power : (n : ℕ) → n < 2 ^ n
own_power zero = lit< tt
own_power (suc n) = omega (arith, pow-suc 2 n, own_power n)

pub part_below : (k t s : ℕ) → s < 2 ^ k → ((v : ℕ) → has t v ≡ true → has s v ≡ true) → t < 2 ^ k
part_below k zero s h e = pow_pos k
part_below k (suc t) s h e =
    let top = leading_top (suc t) (suc t) (omega arith) (own_power (suc t)) in
    lt_of_lt_of_le top.3 (pow_mono (has_below k s top.0 h (e top.0 (has_top (suc t) top.0 top.2 top.3))))
