-- Keys that fit, and the least value taken out of a set.
use Rattle.std.proofs.Common.{◌≡◌, ℕ, ◌-◌, ◌^◌, ◌<◌, ◌≤◌, Bool, true, false, cond, eqb, List, ◌++◌, length, take, drop, Some, None, sym, refl, ap, ap₂, ◌∙◌, arith}
use lib.Count.{count_trailing_zeros}
use Rattle.std.proofs.lemmas.Bool.{le-leb, eqb-true, eqb-false, ne_eqb}
use Rattle.std.proofs.lemmas.List.{take_at, length-append, length-drop}
use Rattle.sets.specs.Sets.{least, only, mask}
use Rattle.sets.proofs.Masks.{only_mask, none_mask}
use Rattle.sets.proofs.Membership.{least_below, has_least, has_at_least}
use Rattle.stores.specs.Keys.{put_answer, put_after}

-- ---- keys

-- a key that fits is written whole
key_fits : (k words : List ℕ) → length k ≤ length words → put_answer k words ≡ Some (length k)
key_fits k words h = ap (λ (b : Bool). cond b (Some (length k)) None) (le-leb (length k) (length words) h)

pub key_not : {A : Type 0} (k words : List ℕ) → length k ≤ length words → None ≡ put_answer k words → A
key_not k words h e = let z : ◌≡◌ {A = ℕ} 0 1 = cc (key_fits k words h) in absurd (omega arith)

-- a key that fits stands at the front of the words it was written over, which are all of a vector's
pub key_put : (k words items : List ℕ) {after d : List ℕ} {n m : ℕ} → length k ≤ length words → length words ≡ m
    → Some n ≡ put_answer k words → after ≡ put_after k words → d ≡ take m (after ++ drop (length after) items) → take n d ≡ k
key_put k words items {after} {d} {n} {m} h l v a e =
    ap₂ take size (e ∙ ap (take m) (ap (λ (x : List ℕ). x ++ drop (length x) items) over) ∙ take_at (k ++ drop (length k) words) (drop (length (k ++ drop (length k) words)) items) m long)
    ∙ take_at k (drop (length k) words) (length k) refl
  where
    size : n ≡ length k
    size = cc (v, key_fits k words h)

    over : after ≡ k ++ drop (length k) words
    over = a ∙ ap (λ (b : Bool). cond b (k ++ drop (length k) words) words) (le-leb (length k) (length words) h)

    long : length (k ++ drop (length k) words) ≡ m
    long = omega (arith, length-append k (drop (length k) words), length-drop (length k) words, h, l)

-- ---- the least value taken

by_test : (left r : ℕ) (b : Bool) → eqb left 0 ≡ b → left < 2 ^ 64 → r ≡ mask 64 (λ v. eqb v (least left)) → (r ≤ left) × (r ≡ cond b 0 (only (least left))) × (left - r ≡ left - only (least left))
unfolding count_trailing_zeros
by_test left r true t f d =
    let none : least 0 ≡ 64 = refl in
    let z : left ≡ 0 = eqb-true left 0 t in
    let e : r ≡ 0 = d ∙ sym (none_mask (λ v. eqb v (least left)) (λ v l. ne_eqb v (least left) (λ q. omega (arith, ap least z)))) in
    (omega arith, e, omega arith)
by_test left r false t f d =
    let some : 0 < left = omega (arith, eqb-false left 0 t) in
    let e : r ≡ only (least left) = d ∙ sym (only_mask (least left) (least_below left some f)) in
    (omega (arith, has_at_least left (least left) (has_least left some f)), e, ap (λ (x : ℕ). left - x) e)

pub least_taken : (left r : ℕ) → left < 2 ^ 64 → r ≡ mask 64 (λ v. eqb v (least left)) → (r ≤ left) × (r ≡ cond (eqb left 0) 0 (only (least left))) × (left - r ≡ left - only (least left))
least_taken left r f d = by_test left r (eqb left 0) refl f d
