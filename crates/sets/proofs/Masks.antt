-- Masks of 64 bits: what `!`, `&`, `|` and a shift make of the members, and the number that a test's set is.
use Rattle.std.proofs.Common.{◌≡◌, ℕ, zero, suc, ◌-◌, ◌/◌, ◌%◌, ◌^◌, ◌<◌, Bool, true, false, not, ◌&&◌, ◌||◌, eqb, ltb, leb, ◌⊎◌, sym, refl, ap, ◌∙◌, inl, inr, le_of_suc-le-suc, lt_of_le_of_lt, pow-suc, arith, lit<}
use lib.Bits.{bit_and, bit_or, and_mask, and_le_l, or_shr, or_mod}
use Rattle.std.proofs.lemmas.Nat.{pow_pos, pow_below}
use Rattle.std.proofs.lemmas.Bool.{le-leb, lt-leb, cases_lt}
use Rattle.sets.specs.Sets.{has, only, mask, sift}
use Rattle.sets.proofs.Membership.{has_suc, has_zero, has_above, same_sets, has_mask, mask_below, has_sift, sift_below, has_only, only_below, has_all, has_and, has_none}

-- a word whose members are those that pass is the set of what passes
pub mask_is : (s : ℕ) (f : ℕ → Bool) → s < 2 ^ 64 → ((v : ℕ) → v < 64 → has s v ≡ f v) → s ≡ mask 64 f
mask_is s f h e = same_sets 64 s (mask 64 f) h (mask_below 64 f) (λ v l. e v l ∙ sym (has_mask 64 f v l))

pub sift_is : (t s : ℕ) (f : ℕ → Bool) → t < 2 ^ 64 → ((v : ℕ) → v < 64 → has t v ≡ (has s v && f v)) → t ≡ sift f s
sift_is t s f h e = same_sets 64 t (sift f s) h (sift_below f s) (λ v l. e v l ∙ sym (has_sift f s v l))

-- `s & m` keeps the values of s that m has
pub and_sift : (s m : ℕ) (f : ℕ → Bool) → s < 2 ^ 64 → ((v : ℕ) → v < 64 → has m v ≡ f v) → bit_and s m ≡ sift f s
and_sift s m f h e = sift_is (bit_and s m) s f (lt_of_le_of_lt (and_le_l s m) h) (λ v l. has_and s m v ∙ ap (λ (b : Bool). has s v && b) (e v l))

-- `!m`
pub has_not : (k m v : ℕ) → m < 2 ^ k → v < k → has (2 ^ k - 1 - m) v ≡ not (has m v)
has_not zero m v h l = absurd (out v l)
  where
    out : (v : ℕ) → v < 0 → ⊥
    out v l = omega arith
has_not (suc k) m zero h l =
    has_zero (2 ^ suc k - 1 - m) ∙ flip (m % 2) ((2 ^ suc k - 1 - m) % 2) (omega arith) (omega (arith, pow-suc 2 k)) ∙ sym (ap not (has_zero m))
  where
    flip : (d e : ℕ) → d < 2 → e ≡ 1 - d → eqb e 1 ≡ not (eqb d 1)
    flip zero e l k = rw k
    flip (suc zero) e l k = rw k
    flip (suc (suc d)) e l k = absurd (omega arith)
has_not (suc k) m (suc v) h l =
    has_suc (2 ^ suc k - 1 - m) v ∙ ap (λ (x : ℕ). has x v) halved ∙ has_not k (m / 2) v (omega (arith, pow-suc 2 k)) (le_of_suc-le-suc l) ∙ sym (ap not (has_suc m v))
  where
    halved : (2 ^ suc k - 1 - m) / 2 ≡ 2 ^ k - 1 - m / 2
    halved = omega (arith, pow-suc 2 k)

-- `a | b`
digit : (n : ℕ) → (n % 2 ≡ 0) ⊎ (n % 2 ≡ 1)
digit n = go (n % 2) (omega arith)
  where
    go : (d : ℕ) → d < 2 → (d ≡ 0) ⊎ (d ≡ 1)
    go zero h = inl refl
    go (suc d) h = inr (omega arith)

pub has_or : (a b v : ℕ) → has (bit_or a b) v ≡ (has a v || has b v)
has_or a b v =
    ap (λ (x : ℕ). eqb (x % 2) 1) (or_shr a b v) ∙ ap (λ (x : ℕ). eqb x 1) (or_mod (a / 2 ^ v) (b / 2 ^ v) 1)
    ∙ digits ((a / 2 ^ v) % 2) ((b / 2 ^ v) % 2) (digit (a / 2 ^ v)) (digit (b / 2 ^ v))
  where
    digits : (x y : ℕ) → (x ≡ 0) ⊎ (x ≡ 1) → (y ≡ 0) ⊎ (y ≡ 1) → eqb (bit_or x y) 1 ≡ (eqb x 1 || eqb y 1)
    digits x y (inl p) (inl q) = rw (p, q)
    digits x y (inl p) (inr q) = rw (p, q)
    digits x y (inr p) (inl q) = rw (p, q)
    digits x y (inr p) (inr q) = rw (p, q)

-- ---- single values, and values up to or from one

-- `(s >> v) & 1`
pub bit_has : (s v : ℕ) → eqb (bit_and (s / 2 ^ v) 1) 1 ≡ has s v
bit_has s v = ap (λ (x : ℕ). eqb x 1) (and_mask (s / 2 ^ v) 1)

pub only_mask : (v : ℕ) → v < 64 → only v ≡ mask 64 (λ w. eqb w v)
only_mask v h = mask_is (only v) (λ w. eqb w v) (only_below v h) (λ w l. has_only v w)

pub none_mask : (f : ℕ → Bool) → ((v : ℕ) → v < 64 → f v ≡ false) → zero ≡ mask 64 f
none_mask f e = mask_is zero f (lit< tt) (λ v l. has_none v ∙ sym (e v l))

pub all_mask : (f : ℕ → Bool) → ((v : ℕ) → v < 64 → f v ≡ true) → 2 ^ 64 - 1 ≡ mask 64 f
all_mask f e = mask_is (2 ^ 64 - 1) f (lit< tt) (λ v l. has_all 64 v l ∙ sym (e v l))

-- the values below k
pub has_low : (k v : ℕ) → has (2 ^ k - 1) v ≡ ltb v k
has_low k v = elim (cases_lt v k) [
  | inl l ↦ has_all k v l ∙ sym (le-leb (suc v) k l)
  | inr l ↦ has_above k (2 ^ k - 1) v (omega (arith, pow_pos k)) l ∙ sym (lt-leb (suc v) k (omega arith))
]

pub up_to_mask : (v : ℕ) → v < 63 → 2 ^ suc v - 1 ≡ mask 64 (λ w. leb w v)
up_to_mask v h = mask_is (2 ^ suc v - 1) (λ w. leb w v) (omega (arith, pow_below (suc v) 64 (omega arith))) (λ w l. has_low (suc v) w ∙ same w)
  where
    same : (w : ℕ) → ltb w (suc v) ≡ leb w v
    same w = elim (cases_lt v w) [ inl l ↦ lt-leb (suc w) (suc v) (omega arith) ∙ sym (lt-leb w v l) | inr l ↦ le-leb (suc w) (suc v) (omega arith) ∙ sym (le-leb w v l) ]

pub from_mask : (v : ℕ) → v < 64 → 2 ^ 64 - 1 - (2 ^ v - 1) ≡ mask 64 (λ w. leb v w)
from_mask v h =
    let low : 2 ^ v - 1 < 2 ^ 64 = omega (arith, pow_below v 64 h) in
    mask_is (2 ^ 64 - 1 - (2 ^ v - 1)) (λ w. leb v w) (omega arith) (λ w l. has_not 64 (2 ^ v - 1) w low l ∙ ap not (has_low v w) ∙ flip w)
  where
    flip : (w : ℕ) → not (ltb w v) ≡ leb v w
    flip w = elim (cases_lt w v) [ inl l ↦ ap not (le-leb (suc w) v l) ∙ sym (lt-leb v w l) | inr l ↦ ap not (lt-leb (suc w) v (omega arith)) ∙ sym (le-leb v w l) ]

-- `s & !m`
pub and_not_sift : (s m : ℕ) (f : ℕ → Bool) → s < 2 ^ 64 → m < 2 ^ 64 → ((v : ℕ) → v < 64 → has m v ≡ f v) → bit_and s (2 ^ 64 - 1 - m) ≡ sift (λ v. not (f v)) s
and_not_sift s m f h l e = and_sift s (2 ^ 64 - 1 - m) (λ v. not (f v)) h (λ v b. has_not 64 m v l b ∙ ap not (e v b))
