-- The steps of the code of the kind C: a literal's mask, and a look through the literals.
use Rattle.std.proofs.Common.{◌≡◌, ℕ, ◌+◌, ◌-◌, ◌^◌, ◌<◌, ◌≤◌, Bool, true, false, cond, not, ◌&&◌, eqb, zero, suc, List, [], ◌∷◌, length, get_or, take, drop, position, Some, None, is_some, inl, inr, nat_abs, sym, refl, ap, ◌∙◌, arith}
use lib.Bits.{bit_and}
use Rattle.std.specs.List.{filter, list_all, position_or_len}
use Rattle.std.proofs.lemmas.Bool.{le-ltb, lt-ltb, cases_lt, and_parts, both_ways}
use Rattle.std.proofs.lemmas.List.{take_rest}
use Rattle.std.proofs.lemmas.List.Quantifiers.{position-Some}
use Rattle.rows.specs.declared.member.Member.{Member}
use Rattle.sets.specs.Sets.{has, mask, sift}
use Rattle.kinds.specs.Literals.{literal_holds, refuted, may_hold, units}
use Rattle.rows.specs.Shared.{cut, cuts}
use Rattle.sets.proofs.Masks.{mask_is, has_not, and_sift, and_not_sift}
use Rattle.rows.proofs.Masked.{members_of, masked_below}
use Rattle.rows.proofs.Narrowed.{cut_same}

-- ---- masks

-- from 64 on, all values but one
pub true_values_but : (m : Member) (a s : ℕ) → a ≡ nat_abs m.argument → 64 ≤ a → s ≡ mask 64 (λ v. eqb v (a - 64)) → 2 ^ 64 - 1 - s ≡ mask 64 (literal_holds m)
true_values_but m a s e h k =
    let small : s < 2 ^ 64 = masked_below s (λ v. eqb v (a - 64)) k in
    mask_is (2 ^ 64 - 1 - s) (literal_holds m) (omega arith) (λ v l. has_not 64 s v small l ∙ ap not (members_of s (λ w. eqb w (a - 64)) k v l) ∙ said v)
  where
    said : (v : ℕ) → not (eqb v (a - 64)) ≡ literal_holds m v
    said v = ap (λ (x : ℕ). not (eqb v (x - 64))) e ∙ sym (ap (λ b. cond b (eqb v (nat_abs m.argument)) (not (eqb v (nat_abs m.argument - 64)))) (le-ltb (nat_abs m.argument) 64 (omega arith)))

-- no value of a set passes, by the mask of those that pass, and by that of those that do not
pub none_in : (s t : ℕ) (f : ℕ → Bool) → s < 2 ^ 64 → t ≡ mask 64 f → eqb (bit_and s t) 0 ≡ eqb (sift f s) 0
none_in s t f h e = ap (λ (x : ℕ). eqb x 0) (and_sift s t f h (members_of t f e))

pub none_out : (s t : ℕ) (f : ℕ → Bool) → s < 2 ^ 64 → t ≡ mask 64 f → eqb (bit_and s (2 ^ 64 - 1 - t)) 0 ≡ eqb (sift (λ v. not (f v)) s) 0
none_out s t f h e = ap (λ (x : ℕ). eqb x 0) (and_not_sift s t f h (masked_below t f e) (members_of t f e))

-- ---- the literals that stand

-- where none passes, none is chosen
filter_past : (f : Member → Bool) (ms : List Member) → length ms ≤ position_or_len f ms → filter f ms ≡ []
filter_past f [] h = refl
filter_past f (x ∷ ms) h = go (filter_past f ms) (f x) refl
  where
    step : position_or_len f (x ∷ ms) ≡ cond (not (f x)) (1 + position_or_len f ms) 0
    step = refl

    go : (length ms ≤ position_or_len f ms → filter f ms ≡ []) → (b : Bool) → f x ≡ b → cond (f x) (x ∷ filter f ms) (filter f ms) ≡ []
    go past true k = absurd (omega (arith, h, step, ap (λ (b : Bool). cond (not b) (1 + position_or_len f ms) 0) k))
    go past false k =
        ap (λ (b : Bool). cond b (x ∷ filter f ms) (filter f ms)) k
        ∙ past (omega (arith, h, step, ap (λ (b : Bool). cond (not b) (1 + position_or_len f ms) 0) k))

none_chosen : (f : Member → Bool) (ms : List Member) → position f ms ≡ None → filter f ms ≡ []
none_chosen f ms e = elim (cases_lt (position_or_len f ms) (length ms)) [
  | inl l ↦ absurd (both_ways true (ap is_some (sym (ap (λ (b : Bool). cond b (Some (position_or_len f ms)) None) (lt-ltb (position_or_len f ms) (length ms) l)) ∙ e)) refl)
  | inr l ↦ filter_past f ms l
]

-- up to the first that passes none is chosen
filter_from : (f : Member → Bool) (ms : List Member) (i : ℕ) (d : Member) → i < length ms → f (get_or ms i d) ≡ true → ((k : ℕ) → k < i → f (get_or ms k d) ≡ false)
    → filter f ms ≡ get_or ms i d ∷ filter f (drop (suc i) ms)
filter_from f [] i d h e n = absurd (omega arith)
filter_from f (x ∷ ms) zero d h e n = ap (λ (b : Bool). cond b (x ∷ filter f ms) (filter f ms)) e
filter_from f (x ∷ ms) (suc i) d h e n =
    ap (λ (b : Bool). cond b (x ∷ filter f ms) (filter f ms)) (n 0 (omega arith)) ∙ filter_from f ms i d (omega arith) e (λ k l. n (suc k) (omega arith))

-- where all fail the contrary, none is chosen
filter_none : (g : Member → Bool) (ms : List Member) → list_all g ms ≡ true → filter (λ m. not (g m)) ms ≡ []
filter_none g [] e = refl
filter_none g (x ∷ ms) e =
    let p = and_parts (g x) (list_all g ms) e in
    ap (λ (b : Bool). cond (not b) (x ∷ filter (λ m. not (g m)) ms) (filter (λ m. not (g m)) ms)) p.0 ∙ filter_none g ms p.1

-- and where not all do, one literal and a chosen one are two
units_two : (g : Member → Bool) (m : Member) (l ms : List Member) (s : List ℕ) → list_all g l ≡ false → units (m ∷ filter (λ m. not (g m)) l) ms s ≡ s
units_two g m [] ms s e = absurd (both_ways true e refl)
units_two g m (x ∷ l) ms s e = go (units_two g m l ms s) (g x) refl
  where
    go : (list_all g l ≡ false → units (m ∷ filter (λ m. not (g m)) l) ms s ≡ s) → (b : Bool) → g x ≡ b → units (m ∷ cond (not (g x)) (x ∷ filter (λ m. not (g m)) l) (filter (λ m. not (g m)) l)) ms s ≡ s
    go two true k =
        ap (λ (b : Bool). units (m ∷ cond (not b) (x ∷ filter (λ m. not (g m)) l) (filter (λ m. not (g m)) l)) ms s) k
        ∙ two (sym (ap (λ (b : Bool). b && list_all g l) k) ∙ e)
    go two false k = ap (λ (b : Bool). units (m ∷ cond (not b) (x ∷ filter (λ m. not (g m)) l) (filter (λ m. not (g m)) l)) ms s) k

-- ---- the turn

-- no literal may hold
pub none_unit : (ms : List Member) (s : List ℕ) → None ≡ position (may_hold s) ms → cuts (λ _ _. false) (take 1 ms) s ≡ units (filter (may_hold s) ms) ms s
none_unit ms s e = ap (λ (l : List Member). units l ms s) (sym (none_chosen (may_hold s) ms (sym e)))

-- the literals that stand, from the first on
from_first : (ms : List Member) (d : Member) (s : List ℕ) (i : ℕ) → Some i ≡ position (may_hold s) ms
    → filter (may_hold s) ms ≡ get_or ms i d ∷ filter (may_hold s) (drop (i + 1) ms)
from_first ms d s i e =
    let p = position-Some (may_hold s) ms i d (sym e) in
    let next : suc i ≡ i + 1 = omega arith in
    filter_from (may_hold s) ms i d p.0 p.1 p.2 ∙ ap (λ (n : ℕ). get_or ms i d ∷ filter (may_hold s) (drop n ms)) next

-- one may hold and no more after it
pub one_unit : (ms : List Member) (d : Member) (s : List ℕ) (i t : ℕ) (b : Bool) → Some i ≡ position (may_hold s) ms
    → b ≡ list_all (refuted s) (take (length ms - (i + 1)) (drop (i + 1) ms)) → b ≡ true → t ≡ mask 64 (literal_holds (get_or ms i d))
    → cut (get_or ms i d).voice (has t) s ≡ units (filter (may_hold s) ms) ms s
one_unit ms d s i t b e r k c =
    cut_same (get_or ms i d).voice (has t) (literal_holds (get_or ms i d)) s (members_of t (literal_holds (get_or ms i d)) c)
    ∙ ap (λ (l : List Member). units (get_or ms i d ∷ l) ms s) (sym (filter_none (refuted s) (drop (i + 1) ms) (sym (ap (list_all (refuted s)) (take_rest ms (i + 1))) ∙ sym r ∙ k)))
    ∙ ap (λ (l : List Member). units l ms s) (sym (from_first ms d s i e))

-- another may hold after the first
pub several_unit : (ms : List Member) (d : Member) (s : List ℕ) (i : ℕ) (b : Bool) → Some i ≡ position (may_hold s) ms
    → b ≡ list_all (refuted s) (take (length ms - (i + 1)) (drop (i + 1) ms)) → b ≡ false → s ≡ units (filter (may_hold s) ms) ms s
several_unit ms d s i b e r k =
    sym (units_two (refuted s) (get_or ms i d) (drop (i + 1) ms) ms s (sym (ap (list_all (refuted s)) (take_rest ms (i + 1))) ∙ sym r ∙ k))
    ∙ ap (λ (l : List Member). units l ms s) (sym (from_first ms d s i e))
