-- The steps of the code of the kind E: an entry at a place, and a look through the entries.
use Rattle.std.proofs.Common.{◌≡◌, ℕ, zero, suc, ◌^◌, ◌<◌, ◌≤◌, Bool, true, false, cond, not, Option, Some, None, le_refl, ◌-◌, ◌&&◌, ◌||◌, eqb, ltb, List, [], ◌∷◌, length, get_or, set, nat_abs, sym, refl, ap, ◌∙◌, subst, ap₂, inl, inr, le_of_suc-le-suc, arith, lit<}
use lib.Bits.{bit_or}
use lib.Dec.{eqb-suc-suc}
use Rattle.std.proofs.lemmas.Nat.{or_lt}
use Rattle.std.proofs.lemmas.List.{get_or_past}
use Rattle.std.proofs.lemmas.Bool.{eq-eqb, ne_eqb, lt-ltb, le-ltb, cases_eq, cases_lt, and_parts, and_from, or_right}
use Rattle.rows.specs.Rows.{RowData}
use Rattle.rows.specs.declared.member.Member.{Member}
use Rattle.sets.specs.Placings.{changed, Narrower}
use Rattle.sets.specs.Sets.{has, least, only, mask, sift}
use Rattle.kinds.specs.Entries.{index, result_voice, entry, reached, narrow_index, narrow_result}
use Rattle.rows.specs.Shared.{cut}
use Rattle.sets.proofs.Membership.{same_sets, has_none, has_above, has_below, has_least, has_less, has_only, only_pos, none_zero, mask_below, has_mask, has_sift, sift_below}
use Rattle.sets.proofs.Masks.{mask_is, has_or, only_mask}
use Rattle.rows.proofs.Narrowed.{cut_same, changed_then}
use Rattle.rows.proofs.Cuts.{Small, cut_small, cut_narrower, cut_same_place, cut_past}

-- ---- one entry

pub entry_at : (ms : List Member) (i : ℕ) (d : Member) → i < length ms → nat_abs (get_or ms i d).argument ≡ entry ms i
entry_at [] i d h = absurd (out i h)
  where
    out : (i : ℕ) → i < 0 → ⊥
    out i h = omega arith
entry_at (m ∷ ms) zero d h = refl
entry_at (m ∷ ms) (suc i) d h = entry_at ms i d (le_of_suc-le-suc h)

entry_past : (ms : List Member) (i : ℕ) → length ms ≤ i → entry ms i ≡ 64
entry_past [] i h = refl
entry_past (m ∷ ms) zero h = absurd (omega arith)
entry_past (m ∷ ms) (suc i) h = entry_past ms i (omega arith)

-- ---- what is reached

reached_same : (ms : List Member) (f g : ℕ → Bool) (v : ℕ) → ((i : ℕ) → f i ≡ g i) → reached ms f v ≡ reached ms g v
reached_same [] f g v e = refl
reached_same (m ∷ ms) f g v e =
    ap₂ ◌||◌ (ap (λ (b : Bool). b && eqb (nat_abs m.argument) v) (e zero)) (reached_same ms (λ i. f (suc i)) (λ i. g (suc i)) v (λ i. e (suc i)))

reached_none : (ms : List Member) (f : ℕ → Bool) (v : ℕ) → ((i : ℕ) → f i ≡ false) → reached ms f v ≡ false
reached_none [] f v e = refl
reached_none (m ∷ ms) f v e = ap (λ b. (b && eqb (nat_abs m.argument) v) || reached ms (λ i. f (suc i)) v) (e zero) ∙ reached_none ms (λ i. f (suc i)) v (λ i. e (suc i))

-- one place more
reached_more : (ms : List Member) (f : ℕ → Bool) (p v : ℕ) → p < length ms → reached ms (λ i. f i || eqb i p) v ≡ (reached ms f v || eqb (entry ms p) v)
reached_more [] f p v h = absurd (omega arith)
reached_more (m ∷ ms) f zero v h =
    ap₂ (λ a b. (a && eqb (nat_abs m.argument) v) || b) (or_right (f zero) (eqb 0 0) (eq-eqb 0 0 refl))
    (reached_same ms (λ i. f (suc i) || eqb (suc i) 0) (λ i. f (suc i)) v (λ i. ap (λ b. f (suc i) || b) (ne_eqb (suc i) 0 (λ e. omega arith)) ∙ plain (f (suc i))))
    ∙ head (f zero) (eqb (nat_abs m.argument) v) (reached ms (λ i. f (suc i)) v)
  where
    plain : (b : Bool) → (b || false) ≡ b
    plain true = refl
    plain false = refl

    head : (x y z : Bool) → (y || z) ≡ (((x && y) || z) || y)
    head true true z = refl
    head false true true = refl
    head false true false = refl
    head true false true = refl
    head true false false = refl
    head false false true = refl
    head false false false = refl
reached_more (m ∷ ms) f (suc p) v h =
    ap₂ (λ a b. (a && eqb (nat_abs m.argument) v) || b) (ap (λ b. f zero || b) (ne_eqb 0 (suc p) (λ e. omega arith)) ∙ plain (f zero))
    (reached_same ms (λ i. f (suc i) || eqb (suc i) (suc p)) (λ i. f (suc i) || eqb i p) v (λ i. ap (λ b. f (suc i) || b) (eqb-suc-suc i p))
    ∙ reached_more ms (λ i. f (suc i)) p v (omega arith))
    ∙ grouped (f zero && eqb (nat_abs m.argument) v) (reached ms (λ i. f (suc i)) v) (eqb (entry ms p) v)
  where
    plain : (b : Bool) → (b || false) ≡ b
    plain true = refl
    plain false = refl

    grouped : (x y z : Bool) → (x || (y || z)) ≡ ((x || y) || z)
    grouped true y z = refl
    grouped false y z = refl

-- ---- a walk over the indices

-- xs are the indices, ys the results, and left the indices that are still to come
pub record Matched (ms : List Member) (xs ys left kept named : ℕ) : Type 0 where
  pub left_below : left < 2 ^ 64
  pub kept_below : kept < 2 ^ 64
  pub named_below : named < 2 ^ 64
  pub part : (v : ℕ) → has left v ≡ true → has xs v ≡ true
  pub kept_is : (v : ℕ) → has kept v ≡ ((has xs v && not (has left v)) && has ys (entry ms v))
  pub named_is : (v : ℕ) → v < 64 → has named v ≡ reached ms (has kept) v

pub matched_none : (ms : List Member) (xs ys : ℕ) → xs < 2 ^ 64 → Matched ms xs ys xs 0 0
matched_none ms xs ys h = record {
  left_below = h;
  kept_below = lit< tt;
  named_below = lit< tt;
  part = λ v e. e;
  kept_is = λ v. has_none v ∙ sym (ap (λ b. b && has ys (entry ms v)) (never (has xs v)));
  named_is = λ v l. has_none v ∙ sym (reached_none ms (has 0) v has_none);
}
  where
    never : (b : Bool) → (b && not b) ≡ false
    never true = refl
    never false = refl

-- what a taken value says: there was one, and it was the least
pub taken_some : (left p : ℕ) → Some p ≡ cond (eqb left 0) None (Some (least left)) → (0 < left) × (p ≡ least left)
taken_some zero p e = let none : ◌≡◌ {A = Option ℕ} (Some p) None = e in let z : ◌≡◌ {A = ℕ} 0 1 = cc in absurd (omega arith)
taken_some (suc s) p e = let one : ◌≡◌ {A = Option ℕ} (Some p) (Some (least (suc s))) = e ∙ ap (λ b. cond b None (Some (least (suc s)))) (ne_eqb (suc s) 0 (λ q. omega arith)) in (omega arith, cc)

pub taken_none : (left : ℕ) → None ≡ cond (eqb left 0) None (Some (least left)) → left ≡ 0
taken_none zero e = refl
taken_none (suc s) e = let one : ◌≡◌ {A = Option ℕ} None (Some (least (suc s))) = e ∙ ap (λ b. cond b None (Some (least (suc s)))) (ne_eqb (suc s) 0 (λ q. omega arith)) in let z : ◌≡◌ {A = ℕ} 0 1 = cc in absurd (omega arith)

-- and what is left after it
rest_is : (left p rest : ℕ) → left < 2 ^ 64 → Some p ≡ cond (eqb left 0) None (Some (least left)) → rest ≡ cond (eqb left 0) 0 (left - only (least left)) → rest ≡ left - only p
rest_is zero p rest h a b = absurd (omega (arith, (taken_some zero p a).0))
rest_is (suc s) p rest h a b = let least_out : rest ≡ suc s - only (least (suc s)) = b ∙ ap (λ x. cond x 0 (suc s - only (least (suc s)))) (ne_eqb (suc s) 0 (λ q. omega arith)) in least_out ∙ ap (λ x. suc s - only x) (sym (taken_some (suc s) p a).1)

pub rest_smaller : (left p rest : ℕ) → left < 2 ^ 64 → Some p ≡ cond (eqb left 0) None (Some (least left)) → rest ≡ cond (eqb left 0) 0 (left - only (least left)) → rest < left
rest_smaller left p rest h a b = let t = taken_some left p a in omega (arith, rest_is left p rest h a b, only_pos p)

-- one index on: its entry is among the results or not
record Step (ms : List Member) (xs ys left p rest kept named : ℕ) : Type 0 where
  small : p < 64
  here : has xs p ≡ true
  below : rest < 2 ^ 64
  has_rest : (v : ℕ) → has rest v ≡ (has left v && not (eqb v p))
  before : Matched ms xs ys left kept named

step : (ms : List Member) (xs ys left p rest kept named : ℕ) → Matched ms xs ys left kept named → Some p ≡ cond (eqb left 0) None (Some (least left)) → rest ≡ cond (eqb left 0) 0 (left - only (least left))
    → Step ms xs ys left p rest kept named
step ms xs ys left p rest kept named m a b =
    let t = taken_some left p a in
    let e = rest_is left p rest m.left_below a b in
    let at : has left p ≡ true = ap (has left) t.1 ∙ has_least left t.0 m.left_below in
    let less = rest_smaller left p rest m.left_below a b in
    record {
      small = has_below 64 left p m.left_below at;
      here = m.part p at;
      below = omega (arith, m.left_below);
      has_rest = λ v. ap (λ x. has x v) e ∙ has_less left p v at;
      before = m;
    }

rest_part : (ms : List Member) (xs ys left p rest kept named v : ℕ) → Step ms xs ys left p rest kept named → has rest v ≡ true → has xs v ≡ true
rest_part ms xs ys left p rest kept named v s e = s.before.part v (and_parts (has left v) (not (eqb v p)) (sym (s.has_rest v) ∙ e)).0

pub matched_passed : (ms : List Member) (xs ys left p rest kept named : ℕ) → Matched ms xs ys left kept named → Some p ≡ cond (eqb left 0) None (Some (least left)) → rest ≡ cond (eqb left 0) 0 (left - only (least left))
    → has ys (entry ms p) ≡ false → Matched ms xs ys rest kept named
matched_passed ms xs ys left p rest kept named m a b n =
    let s = step ms xs ys left p rest kept named m a b in
    record {
      left_below = s.below;
      kept_below = m.kept_below;
      named_below = m.named_below;
      part = λ v. rest_part ms xs ys left p rest kept named v s;
      kept_is = λ v. m.kept_is v ∙ one v ∙ sym (ap (λ r. (has xs v && not r) && has ys (entry ms v)) (s.has_rest v));
      named_is = m.named_is;
    }
  where
    plain : (b : Bool) → (b && true) ≡ b
    plain true = refl
    plain false = refl

    never : (b : Bool) → (b && false) ≡ false
    never true = refl
    never false = refl

    one : (v : ℕ) → ((has xs v && not (has left v)) && has ys (entry ms v)) ≡ ((has xs v && not (has left v && not (eqb v p))) && has ys (entry ms v))
    one v = elim (cases_eq v p) [
      | inl q ↦ (let none : has ys (entry ms v) ≡ false = ap (λ x. has ys (entry ms x)) q ∙ n in
          ap (λ x. (has xs v && not (has left v)) && x) none ∙ never (has xs v && not (has left v))
          ∙ sym (ap (λ x. (has xs v && not (has left v && not (eqb v p))) && x) none ∙ never (has xs v && not (has left v && not (eqb v p)))))
      | inr q ↦ ap (λ x. (has xs v && not x) && has ys (entry ms v)) (sym (plain (has left v)) ∙ ap (λ x. has left v && not x) (sym (ne_eqb v p q)))
    ]

pub matched_added : (ms : List Member) (xs ys left p rest kept named a b : ℕ) → ys < 2 ^ 64 → Matched ms xs ys left kept named → Some p ≡ cond (eqb left 0) None (Some (least left))
    → rest ≡ cond (eqb left 0) 0 (left - only (least left)) → has ys (entry ms p) ≡ true → a ≡ mask 64 (λ v. eqb v p) → b ≡ mask 64 (λ v. eqb v (entry ms p))
    → Matched ms xs ys rest (bit_or kept a) (bit_or named b)
matched_added ms xs ys left p rest kept named a b h m e k y f g =
    let s = step ms xs ys left p rest kept named m e k in
    let own : a ≡ only p = f ∙ sym (only_mask p s.small) in
    let has_kept = λ (v : ℕ). has_or kept a v ∙ ap (λ x. has kept v || has x v) own ∙ ap (λ x. has kept v || x) (has_only p v) in
    let inside : p < length ms = within p y in
    record {
      left_below = s.below;
      kept_below = or_lt 64 kept a m.kept_below (subst (λ x. x < 2 ^ 64) (sym f) (mask_below 64 (λ v. eqb v p)));
      named_below = or_lt 64 named b m.named_below (subst (λ x. x < 2 ^ 64) (sym g) (mask_below 64 (λ v. eqb v (entry ms p))));
      part = λ v. rest_part ms xs ys left p rest kept named v s;
      kept_is = λ v. has_kept v ∙ ap (λ x. x || eqb v p) (m.kept_is v) ∙ one v s.here ∙ sym (ap (λ r. (has xs v && not r) && has ys (entry ms v)) (s.has_rest v));
      named_is = λ v l. has_or named b v
          ∙ ap₂ ◌||◌ (m.named_is v l) (ap (λ x. has x v) g ∙ has_mask 64 (λ w. eqb w (entry ms p)) v l ∙ turned v (entry ms p))
          ∙ sym (reached_same ms (has (bit_or kept a)) (λ i. has kept i || eqb i p) v has_kept ∙ reached_more ms (has kept) p v inside);
    }
  where
    within : (p : ℕ) → has ys (entry ms p) ≡ true → p < length ms
    within p y = elim (cases_lt p (length ms)) [
      | inl l ↦ l
      | inr l ↦ (let top : 64 < 64 = subst (λ x. x < 64) (entry_past ms p l) (has_below 64 ys (entry ms p) h y) in absurd (omega arith))
    ]

    turned : (x y : ℕ) → eqb x y ≡ eqb y x
    turned x y = elim (cases_eq x y) [ inl k ↦ eq-eqb x y k ∙ sym (eq-eqb y x (sym k)) | inr k ↦ ne_eqb x y k ∙ sym (ne_eqb y x (λ q. k (sym q))) ]

    plain : (b : Bool) → (b || false) ≡ b
    plain true = refl
    plain false = refl

    whole : (b : Bool) → (b && true) ≡ b
    whole true = refl
    whole false = refl

    never : (b : Bool) → (b && false) ≡ false
    never true = refl
    never false = refl

    one : (v : ℕ) → has xs p ≡ true → (((has xs v && not (has left v)) && has ys (entry ms v)) || eqb v p) ≡ ((has xs v && not (has left v && not (eqb v p))) && has ys (entry ms v))
    one v here = elim (cases_eq v p) [
      | inl q ↦ or_right ((has xs v && not (has left v)) && has ys (entry ms v)) (eqb v p) (eq-eqb v p q)
          ∙ sym (and_from (has xs v && not (has left v && not (eqb v p))) (has ys (entry ms v))
          (and_from (has xs v) (not (has left v && not (eqb v p))) (ap (has xs) q ∙ here) (ap not (ap (λ x. has left v && not x) (eq-eqb v p q) ∙ never (has left v))))
          (ap (λ x. has ys (entry ms x)) q ∙ y))
      | inr q ↦ ap (λ x. ((has xs v && not (has left v)) && has ys (entry ms v)) || x) (ne_eqb v p q) ∙ plain ((has xs v && not (has left v)) && has ys (entry ms v))
          ∙ ap (λ x. (has xs v && not x) && has ys (entry ms v)) (sym (whole (has left v)) ∙ ap (λ x. has left v && not x) (sym (ne_eqb v p q)))
    ]

-- all indices walked
abbrev pub matches : List Member → ℕ → ℕ → Bool
matches ms ys i = ltb i (length ms) && has ys (entry ms i)

pub kept_all : (ms : List Member) (xs ys left kept named : ℕ) → ys < 2 ^ 64 → left ≡ 0 → Matched ms xs ys left kept named → kept ≡ sift (matches ms ys) xs
kept_all ms xs ys left kept named h z m =
    same_sets 64 kept (sift (matches ms ys) xs) m.kept_below (sift_below (matches ms ys) xs)
    (λ v l. m.kept_is v ∙ ap (λ r. (has xs v && not r) && has ys (entry ms v)) (ap (λ x. has x v) z ∙ has_none v) ∙ ap₂ ◌&&◌ (whole (has xs v)) (inner v) ∙ sym (has_sift (matches ms ys) xs v l))
  where
    whole : (b : Bool) → (b && true) ≡ b
    whole true = refl
    whole false = refl

    inner : (v : ℕ) → has ys (entry ms v) ≡ matches ms ys v
    inner v = elim (cases_lt v (length ms)) [
      | inl l ↦ sym (ap (λ b. b && has ys (entry ms v)) (lt-ltb v (length ms) l))
      | inr l ↦ ap (has ys) (entry_past ms v l) ∙ has_above 64 ys 64 h (le_refl 64) ∙ sym (ap (λ b. b && has ys (entry ms v)) (le-ltb v (length ms) l))
    ]

pub named_all : (ms : List Member) (xs ys left kept named : ℕ) → Matched ms xs ys left kept named → named ≡ mask 64 (reached ms (has kept))
named_all ms xs ys left kept named m = mask_is named (reached ms (has kept)) m.named_below m.named_is

-- ---- the two steps of a turn

-- a cut by what the set itself keeps
cut_sift : (i : ℕ) (f : ℕ → Bool) (s : List ℕ) → cut i (has (sift f (get_or s i 0))) s ≡ cut i f s
unfolding cut
cut_sift i f s = ap (set s i) (same_sets 64 (sift (has (sift f x)) x) (sift f x) (sift_below (has (sift f x)) x) (sift_below f x) (λ v l.
    has_sift (has (sift f x)) x v l ∙ ap (λ b. has x v && b) (has_sift f x v l) ∙ twice (has x v) (f v) ∙ sym (has_sift f x v l)))
  where
    x : ℕ
    x = get_or s i 0

    twice : (a b : Bool) → (a && (a && b)) ≡ (a && b)
    twice true b = refl
    twice false b = refl

-- the index's set after the first step, also where there is no such voice
index_after : (i : ℕ) (f : ℕ → Bool) (s : List ℕ) → get_or (cut i f s) i 0 ≡ sift f (get_or s i 0)
index_after i f s = elim (cases_lt i (length s)) [
  | inl l ↦ cut_same_place i f s l
  | inr l ↦ ap (λ x. get_or x i 0) (cut_past i f s l) ∙ get_or_past s i 0 l ∙ sym (ap (sift f) (get_or_past s i 0 l) ∙ sift_all_none)
]
  where
    sift_all_none : sift f 0 ≡ 0
    sift_all_none = none_zero 64 (sift f 0) (sift_below f 0) (λ v. elim (cases_lt v 64) [
      | inl l ↦ has_sift f 0 v l ∙ ap (λ b. b && f v) (has_none v)
      | inr l ↦ has_above 64 (sift f 0) v (sift_below f 0) l
    ])

pub index_cut : (r : RowData) (s : List ℕ) (x xs ys kept : ℕ) → x ≡ index r → xs ≡ get_or s x 0 → ys ≡ get_or s (result_voice r) 0
    → kept ≡ sift (matches r.members ys) xs → cut x (has kept) s ≡ narrow_index r s
index_cut r s x xs ys kept a b c e =
    ap (λ k. cut x (has k) s) (e ∙ ap (sift (matches r.members ys)) b) ∙ cut_sift x (matches r.members ys) s
    ∙ ap₂ (λ i y. cut i (matches r.members y) s) a c

pub result_cut : (r : RowData) (s u : List ℕ) (x y xs ys kept named : ℕ) → x ≡ index r → y ≡ result_voice r → xs ≡ get_or s x 0 → ys ≡ get_or s (result_voice r) 0
    → kept ≡ sift (matches r.members ys) xs → named ≡ mask 64 (reached r.members (has kept)) → u ≡ narrow_index r s → cut y (has named) u ≡ narrow_result r u
result_cut r s u x y xs ys kept named a b c d e g k =
    let same : kept ≡ get_or u (index r) 0 = e ∙ ap₂ (λ v w. sift (matches r.members v) w) d (c ∙ ap (λ i. get_or s i 0) a)
    ∙ sym (ap (λ l. get_or l (index r) 0) k ∙ index_after (index r) (matches r.members (get_or s (result_voice r) 0)) s)
    in
    cut_same y (has named) (reached r.members (has kept)) u (λ v l. ap (λ z. has z v) g ∙ has_mask 64 (reached r.members (has kept)) v l)
    ∙ ap₂ (λ i z. cut i (reached r.members (has z)) u) b same

pub both_steps : (r : RowData) (t u s : List ℕ) → Small s → u ≡ narrow_index r s → t ≡ narrow_result r u → (changed u s || changed t u) ≡ changed t s
both_steps r t u s h a b =
    changed_then t u s (subst Small (sym a) (cut_small (index r) (λ i. ltb i (length r.members) && has (get_or s (result_voice r) 0) (entry r.members i)) s h)) h
    (subst (λ (x : List ℕ). Narrower x u) (sym b) (cut_narrower (result_voice r) (reached r.members (has (get_or u (index r) 0))) u))
    (subst (λ (x : List ℕ). Narrower x s) (sym a) (cut_narrower (index r) (λ i. ltb i (length r.members) && has (get_or s (result_voice r) 0) (entry r.members i)) s))
