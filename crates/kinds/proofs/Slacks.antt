-- The values with which a product stays within a slack, by one division.
use Rattle.std.proofs.Common.{◌≡◌, ℕ, zero, suc, ◌+◌, ◌-◌, ◌*◌, ◌/◌, ◌%◌, ◌^◌, ◌<◌, ◌≤◌, min, Bool, true, false, leb, List, [], ◌∷◌, ◌++◌, length, get_or, take, ℤ, pos, negsuc, ◌+ℤ◌, ◌-ℤ◌, ◌*ℤ◌, neg_ℤ, cond, ◌≤ℤ◌, ◌<ℤ◌, FitsSigned, subst, nat_abs, sym, refl, ap, ◌∙◌, ap₂, inl, inr, le_refl, arith, w64, SFits, to_z, of_z}
use lib.Dec.{leb-suc-suc}
use lib.Signed.{le_z, lt_z}
use Rattle.std.proofs.lemmas.Nat.{mul-le, le-div, div-add-mod', mod_below}
use Rattle.std.proofs.lemmas.Int.{ints, to_z-of_z}
use Rattle.std.specs.Int.Signed.{≤ℤ_refl}
use Rattle.std.specs.Ordering.{MatchOrdering, int_cmp, is_lt, ord_max}
use Rattle.std.specs.declared.cmp.Ordering.{Ordering}
use Rattle.std.specs.declared.cmp.Ordering.TheVariants.{Less, Equal, Greater}
use Rattle.std.specs.Cmp.{int_ranks}
use Rattle.std.proofs.lemmas.List.{take_more}
use Rattle.std.proofs.lemmas.Bool.{le-leb, lt-leb, cases_lt, cases_Bool, both_ways, and_parts, and_from}
use Rattle.std.specs.List.{list_all}
use Rattle.sets.specs.Sets.{has, mask}
use Rattle.rows.specs.Shared.{at, cuts}
use Rattle.rows.specs.Rows.{RowData}
use Rattle.rows.specs.declared.member.Member.{Member}
use Rattle.kinds.specs.Sums.{bound, total, term, low, high, within, Near}
use Rattle.kinds.specs.SumsLaws.{low_le, high_ge}
use Rattle.rows.proofs.Cuts.{Small, all_each, each_all, each_map, narrower_refl}
use Rattle.rows.proofs.Narrowed.{cuts_kept}
use Rattle.kinds.proofs.Passes.{cuts_none}
use Rattle.sets.proofs.Membership.{has_mask, mask_below}
use Rattle.sets.proofs.Masks.{mask_is, all_mask, none_mask}

-- tests that agree below 64 make one set
mask_same : (f g : ℕ → Bool) → ((v : ℕ) → v < 64 → f v ≡ g v) → mask 64 f ≡ mask 64 g
mask_same f g e = mask_is (mask 64 f) g (mask_below 64 f) (λ v l. has_mask 64 f v l ∙ e v l)

-- the quotient, rounded down and up
down_test : (c k v : ℕ) → 0 < c → v < 64 → leb v (min (k / c) 63) ≡ leb (c * v) k
down_test c k v p l = elim (cases_lt k (c * v)) [
  | inl h ↦ lt-leb v (min (k / c) 63) (past h) ∙ sym (lt-leb (c * v) k h)
  | inr h ↦ (let q : v ≤ k / c = le-div v k c p (omega arith) in le-leb v (min (k / c) 63) (omega arith) ∙ sym (le-leb (c * v) k h))
]
  where
    past : k < c * v → min (k / c) 63 < v
    past h = elim (cases_lt (k / c) v) [
      | inl q ↦ omega arith
      | inr q ↦ absurd (omega (arith, mul-le v c (k / c) c q (le_refl c), div-add-mod' k c))
    ]

up_test : (c k v : ℕ) → 0 < c → v < 64 → leb (min (k / c + min 1 (k % c)) 64) v ≡ leb k (c * v)
up_test c k v p l = elim (cases_lt v (k / c + min 1 (k % c))) [
  | inl h ↦ lt-leb (min (k / c + min 1 (k % c)) 64) v (omega arith) ∙ sym (lt-leb k (c * v) (short h))
  | inr h ↦ le-leb (min (k / c + min 1 (k % c)) 64) v (omega arith) ∙ sym (le-leb k (c * v) (enough h))
]
  where
    short : v < k / c + min 1 (k % c) → c * v < k
    short h = elim (cases_lt v (k / c)) [
      | inl q ↦ omega (arith, mul-le (suc v) c (k / c) c q (le_refl c), div-add-mod' k c)
      | inr q ↦ omega (arith, mul-le v c (k / c) c (omega arith) (le_refl c), div-add-mod' k c)
    ]

    enough : k / c + min 1 (k % c) ≤ v → k ≤ c * v
    enough h = elim (cases_lt (k / c) v) [
      | inl q ↦ omega (arith, mul-le (suc (k / c)) c v c q (le_refl c), div-add-mod' k c, mod_below k c p)
      | inr q ↦ omega (arith, mul-le (k / c) c v c (omega arith) (le_refl c), div-add-mod' k c)
    ]

-- a slack that is not negative
pub up_to_within : (a z : ℤ) → lt_z (pos 0) a ≡ true → le_z (pos 0) z ≡ true → mask 64 (λ v. leb v (min (nat_abs z / nat_abs a) 63)) ≡ mask 64 (λ v. le_z (a *ℤ pos v) z)
up_to_within (pos n) (pos k) p q = mask_same _ _ (λ v l. down_test n k v (omega (arith, ints)) l)
up_to_within (pos n) (negsuc k) p q = absurd (both_ways false refl q)
up_to_within (negsuc n) z p q = absurd (both_ways false refl p)

pub all_within : (a z : ℤ) → lt_z (pos 0) a ≡ false → le_z (pos 0) z ≡ true → 2 ^ 64 - 1 ≡ mask 64 (λ v. le_z (a *ℤ pos v) z)
all_within a (pos k) p q = all_mask _ (λ v l. go a v p)
  where
    go : (a : ℤ) (v : ℕ) → lt_z (pos 0) a ≡ false → le_z (a *ℤ pos v) (pos k) ≡ true
    go (pos n) v p = let none : n ≡ 0 = omega (arith, ints) in rw none (le-leb (0 * v) k (omega arith))
    go (negsuc n) v p = sym (omega (arith, ints))
all_within a (negsuc k) p q = absurd (both_ways false refl q)

-- one below 0
pub from_within : (a z : ℤ) → lt_z a (pos 0) ≡ true → le_z (pos 0) z ≡ false
    → mask 64 (λ v. leb (min (nat_abs z / nat_abs a + min 1 (nat_abs z % nat_abs a)) 64) v) ≡ mask 64 (λ v. le_z (a *ℤ pos v) z)
from_within a (pos k) p q = absurd (omega (arith, ints))
from_within (pos n) (negsuc k) p q = absurd (omega (arith, ints))
from_within (negsuc n) (negsuc k) p q = mask_same _ _ (λ v l. up_test (suc n) (suc k) v (omega arith) l ∙ go (suc n * v))
  where
    go : (x : ℕ) → leb (suc k) x ≡ le_z (neg_ℤ (pos x)) (negsuc k)
    go zero = lt-leb (suc k) 0 (omega arith)
    go (suc x) = leb-suc-suc k x

pub none_within : (a z : ℤ) → lt_z a (pos 0) ≡ false → le_z (pos 0) z ≡ false → zero ≡ mask 64 (λ v. le_z (a *ℤ pos v) z)
none_within (pos n) (negsuc k) p q = none_mask _ (λ v l. refl)
none_within (negsuc n) z p q = absurd (both_ways true p refl)
none_within (pos n) (pos k) p q = absurd (omega (arith, ints))

-- ---- the slack of a member: what the others leave of the bound

-- as the code has it
abbrev pub slack_of : ℤ → ℤ → ℤ → ℤ
slack_of b t l = to_z w64 (of_z w64 (to_z w64 (of_z w64 (to_z w64 (of_z w64 b) -ℤ to_z w64 (of_z w64 t))) +ℤ to_z w64 (of_z w64 l)))

pub slack_fits : (b t l : ℤ) → Near 2147483648 b → Near 67108864 t → Near 2097152 l → SFits w64 (to_z w64 (of_z w64 (to_z w64 (of_z w64 b) -ℤ to_z w64 (of_z w64 t))) +ℤ to_z w64 (of_z w64 l))
slack_fits b t l hb ht hl = omega (arith, ints, hb.above, hb.below, ht.above, ht.below, hl.above, hl.below)

pub slack_is : (b t l : ℤ) → Near 2147483648 b → Near 67108864 t → Near 2097152 l
    → slack_of b t l ≡ ((b -ℤ t) +ℤ l)
slack_is b t l hb ht hl = omega (arith, ints, hb.above, hb.below, ht.above, ht.below, hl.above, hl.below)

moved : (x b t l : ℤ) → le_z x ((b -ℤ t) +ℤ l) ≡ le_z (x +ℤ (t -ℤ l)) b
moved x b t l = elim (cases_Bool (le_z x ((b -ℤ t) +ℤ l))) [ inl e ↦ e ∙ omega (arith, ints) | inr e ↦ e ∙ omega (arith, ints) ]

pub test_within : (r : RowData) (s : List ℕ) (m : Member) (b t l : ℤ) (v : ℕ) → b ≡ bound r → t ≡ total (low s) r.members → l ≡ low s m
    → le_z (term m v) ((b -ℤ t) +ℤ l) ≡ within r s m v
test_within r s m b t l v p q k =
    moved (term m v) b t l ∙ ap (λ x. le_z (term m v +ℤ (t -ℤ l)) x) p ∙ ap₂ (λ x y. le_z (term m v +ℤ (x -ℤ y)) (bound r)) q k

-- ---- where no value passes its slack

-- the member's greatest is within the slack, then all its values are
pub all_pass : (s : List ℕ) (m : Member) (z : ℤ) (v : ℕ) → Small s → high s m ≤ℤ z → has (at s m) v ≡ true → le_z (term m v) z ≡ true
all_pass s m z v h l e = sym (omega (arith, ints, high_ge s m v h e))

-- w is no less than how far the member's greatest lies above its least
abbrev pub reaches : List ℕ → ℤ → Member → Bool
reaches s w m = le_z (high s m -ℤ low s m) w

passes : (r : RowData) (s : List ℕ) (w : ℤ) (m : Member) (v : ℕ) → Small s → w ≤ℤ (bound r -ℤ total (low s) r.members) → reaches s w m ≡ true → has (at s m) v ≡ true → within r s m v ≡ true
passes r s w m v h l k e = sym (omega (arith, ints, high_ge s m v h e))

pub none_cut : (r : RowData) (s : List ℕ) (w : ℤ) → Small s → w ≤ℤ (bound r -ℤ total (low s) r.members) → list_all (reaches s w) r.members ≡ true → cuts (within r s) r.members s ≡ s
none_cut r s w h l e = cuts_kept (within r s) r.members s h
    (each_map (λ m. reaches s w m ≡ true) (λ m. (v : ℕ) → has (at s m) v ≡ true → within r s m v ≡ true) r.members (λ m k v. passes r s w m v h l k) (all_each (reaches s w) r.members e))

-- ---- where every value passes its slack

-- not even the least terms are within the bound: then no value passes
none_pass : (r : RowData) (s : List ℕ) (m : Member) (v : ℕ) → Small s → (bound r -ℤ total (low s) r.members) <ℤ pos 0 → has (at s m) v ≡ true → within r s m v ≡ false
none_pass r s m v h l e = sym (omega (arith, ints, low_le s m v h e))

pub all_cut : (r : RowData) (s : List ℕ) → Small s → (bound r -ℤ total (low s) r.members) <ℤ pos 0 → cuts (within r s) r.members s ≡ cuts (λ m v. false) r.members s
all_cut r s h l = cuts_none (within r s) r.members s s (narrower_refl s) (λ m v. none_pass r s m v h l)

all_push : (f : Member → Bool) (ms : List Member) (m : Member) → list_all f ms ≡ true → f m ≡ true → list_all f (ms ++ (m ∷ [])) ≡ true
all_push f [] m e k = and_from (f m) true k refl
all_push f (n ∷ ms) m e k = let p = and_parts (f n) (list_all f ms) e in and_from (f n) (list_all f (ms ++ (m ∷ []))) p.0 (all_push f ms m p.1 k)

-- one member more, and a number that is no less
pub reaches_more : (s : List ℕ) (ms : List Member) (i : ℕ) (d : Member) (w x : ℤ) → i < length ms → list_all (reaches s w) (take i ms) ≡ true → w ≤ℤ x → (high s (get_or ms i d) -ℤ low s (get_or ms i d)) ≤ℤ x
    → list_all (reaches s x) (take (i + 1) ms) ≡ true
reaches_more s ms i d w x h e l k =
    ap (list_all (reaches s x)) (take_more ms i d h)
    ∙ all_push (reaches s x) (take i ms) (get_or ms i d)
    (each_all (reaches s x) (take i ms) (each_map (λ m. reaches s w m ≡ true) (λ m. reaches s x m ≡ true) (take i ms) (λ m j. sym (omega (arith, ints))) (all_each (reaches s w) (take i ms) e)))
    (sym (omega (arith, ints)))

-- the greater of two is no less than either
greater : (a b : ℤ) → (a ≤ℤ ord_max int_cmp a b) × (b ≤ℤ ord_max int_cmp a b)
greater a b = go (int_cmp b a) (int_ranks b a)
  where
    go : (o : Ordering) → MatchOrdering o (b <ℤ a) (b ≡ a) (a <ℤ b) → (a ≤ℤ cond (is_lt o) a b) × (b ≤ℤ cond (is_lt o) a b)
    go Less h = (≤ℤ_refl a, omega (arith, ints, h))
    go Equal h = (omega (arith, ints, h), ≤ℤ_refl b)
    go Greater h = (omega (arith, ints, h), ≤ℤ_refl b)

-- the number of such a pass, w, against what the code has of the bound
pub spare_is : (b t w : ℤ) → Near 2147483648 b → Near 67108864 t → SFits w64 w → le_z (to_z w64 (of_z w64 w)) (to_z w64 (of_z w64 (to_z w64 (of_z w64 b) -ℤ to_z w64 (of_z w64 t)))) ≡ true → w ≤ℤ (b -ℤ t)
spare_is b t w hb ht f e =
    let back = to_z-of_z w64 w f in
    let spare : to_z w64 (of_z w64 (to_z w64 (of_z w64 b) -ℤ to_z w64 (of_z w64 t))) ≡ (b -ℤ t) = omega (arith, ints, hb.above, hb.below, ht.above, ht.below) in
    let k : le_z w (b -ℤ t) ≡ true = ap₂ le_z (sym back) (sym spare) ∙ e in
    omega (arith, ints, k)

-- the code's sum is above the code's bound
pub over_bound : (b t : ℤ) → Near 2147483648 b → Near 67108864 t → lt_z (to_z w64 (of_z w64 b)) (to_z w64 (of_z w64 t)) ≡ true → (b -ℤ t) <ℤ pos 0
over_bound b t hb ht e = omega (arith, ints, hb.above, hb.below, ht.above, ht.below, e)

-- a pass that takes the greatest reach, one member on: x and y are the member's greatest and least, as the code has them
pub widest_more : (s : List ℕ) (ms : List Member) (i : ℕ) (d : Member) (w x y z : ℤ) → i < length ms → FitsSigned w64 z → list_all (reaches s w) (take i ms) ≡ true
    → x ≡ high s (get_or ms i d) → y ≡ low s (get_or ms i d) → Near 2097152 x → Near 2097152 y
    → z ≡ ord_max int_cmp w (to_z w64 (of_z w64 (to_z w64 (of_z w64 x) -ℤ to_z w64 (of_z w64 y))))
    → list_all (reaches s (to_z w64 (of_z w64 z))) (take (i + 1) ms) ≡ true
widest_more s ms i d w x y z l f e p q hx hy k =
    let reach : to_z w64 (of_z w64 (to_z w64 (of_z w64 x) -ℤ to_z w64 (of_z w64 y))) ≡ (x -ℤ y) = omega (arith, ints, hx.above, hx.below, hy.above, hy.below) in
    let g = greater w (to_z w64 (of_z w64 (to_z w64 (of_z w64 x) -ℤ to_z w64 (of_z w64 y)))) in
    let back = to_z-of_z w64 z f in
    reaches_more s ms i d w (to_z w64 (of_z w64 z)) l e (rw (back, k) g.0) (rw (← p, ← q, back, k) (subst (λ r. r ≤ℤ ord_max int_cmp w (to_z w64 (of_z w64 (to_z w64 (of_z w64 x) -ℤ to_z w64 (of_z w64 y))))) reach g.1))
