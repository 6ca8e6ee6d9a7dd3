-- The values that several members' sets have, and members that take nothing.
use Rattle.std.proofs.Common.{◌≡◌, ℕ, zero, suc, ◌+◌, ◌^◌, ◌<◌, ◌≤◌, ◌≢◌, le_refl, add-one, Bool, true, false, cond, not, ◌&&◌, ◌||◌, eqb, ltb, List, [], ◌∷◌, length, get_or, take, bit_and, bit_or, sym, refl, ap, ◌∙◌, subst, ap₂, inl, inr, lit<, lt_of_le_of_lt, arith}
use Rattle.std.proofs.lemmas.Nat.{or_lt, and_le_l}
use Rattle.std.proofs.lemmas.List.{take_all}
use Rattle.std.proofs.lemmas.List.Sums.{count_by_more_no, count_by_more_yes, sum_by-cons}
use Rattle.std.proofs.lemmas.Bool.{cases_Bool, cases_eq, both_ways, eq-eqb, ne_eqb, and_from, or_left, or_right, lt-ltb}
use Rattle.std.specs.List.{count_by, list_any}
use Rattle.rows.specs.declared.member.Member.{Member}
use Rattle.sets.specs.Placings.{Narrower}
use Rattle.sets.specs.Sets.{has, fixed, least, mask}
use Rattle.sets.proofs.Masks.{mask_is, has_or}
use Rattle.sets.proofs.Membership.{fixed_member, fixed_pos, has_least, has_below, has_mask, has_and, has_none, none_zero}
use Rattle.rows.specs.Shared.{at, cuts}
use Rattle.rows.proofs.Cuts.{Each, Small, narrower_refl}
use Rattle.rows.proofs.Narrowed.{cuts_kept}
use Rattle.rows.proofs.Scans.{nobody}
use Rattle.kinds.specs.Differing.{may_stay, values_taken, fixed_values}
use Rattle.kinds.specs.DifferingLaws.{taken_small, taken_narrower}
use Rattle.kinds.proofs.Taking.{takes_more_one, open_takes_none}

or_none : (b : Bool) → (b || false) ≡ b
or_none true = refl
or_none false = refl

and_none : (b : Bool) → (b && false) ≡ false
and_none true = refl
and_none false = refl

-- how many members' sets have the value
abbrev pub holders : List Member → List ℕ → ℕ → ℕ
holders ms s v = count_by (λ m. has (at s m) v) ms

-- after a run of members: the values of one or more, and of two or more
pub record Seen (ms : List Member) (s : List ℕ) (once shared : ℕ) : Type 0 where
  pub once_below : once < 2 ^ 64
  pub shared_below : shared < 2 ^ 64
  pub once_is : (v : ℕ) → v < 64 → has once v ≡ ltb 0 (holders ms s v)
  pub shared_is : (v : ℕ) → v < 64 → has shared v ≡ ltb 1 (holders ms s v)

pub seen_none : (s : List ℕ) → Seen [] s 0 0
seen_none s = record { once_below = lit< tt; shared_below = lit< tt; once_is = λ v l. has_none v; shared_is = λ v l. has_none v }

-- one member more, whose set is k
more_once : (b : Bool) (n : ℕ) → (ltb 0 n || b) ≡ ltb 0 (cond b (n + 1) n)
more_once true n = or_right (ltb 0 n) true refl ∙ sym (lt-ltb 0 (n + 1) (omega arith))
more_once false n = or_none (ltb 0 n)

more_shared : (c : Bool) (n : ℕ) → (ltb 1 n || (ltb 0 n && c)) ≡ ltb 1 (cond c (n + 1) n)
more_shared true zero = refl
more_shared true (suc zero) = refl
more_shared true (suc (suc n)) = or_left (ltb 1 (suc (suc n))) (ltb 0 (suc (suc n)) && true) (lt-ltb 1 (suc (suc n)) (omega arith)) ∙ sym (lt-ltb 1 (suc (suc n) + 1) (omega arith))
more_shared false n = ap (λ b. ltb 1 n || b) (and_none (ltb 0 n)) ∙ or_none (ltb 1 n)

holders_more : (ms : List Member) (s : List ℕ) (i v : ℕ) → i < length ms → holders (take (i + 1) ms) s v ≡ cond (has (at s (get_or ms i nobody)) v) (holders (take i ms) s v + 1) (holders (take i ms) s v)
holders_more ms s i v l = elim (cases_Bool (has (at s (get_or ms i nobody)) v)) [
  | inl e ↦ count_by_more_yes (λ m. has (at s m) v) ms i nobody l e ∙ ap (λ b. cond b (holders (take i ms) s v + 1) (holders (take i ms) s v)) (sym e)
  | inr e ↦ count_by_more_no (λ m. has (at s m) v) ms i nobody l e ∙ ap (λ b. cond b (holders (take i ms) s v + 1) (holders (take i ms) s v)) (sym e)
]

pub seen_more : (ms : List Member) (s : List ℕ) (i k once shared : ℕ) → Small s → i < length ms → k ≡ at s (get_or ms i nobody) → Seen (take i ms) s once shared
    → Seen (take (i + 1) ms) s (bit_or once k) (bit_or shared (bit_and once k))
seen_more ms s i k once shared h l e seen =
    let m = get_or ms i nobody in
    let small : k < 2 ^ 64 = subst (λ x. x < 2 ^ 64) (sym e) (h m.voice) in
    let both : bit_and once k < 2 ^ 64 = lt_of_le_of_lt (and_le_l once k) seen.once_below in
    record {
      once_below = or_lt 64 once k seen.once_below small;
      shared_below = or_lt 64 shared (bit_and once k) seen.shared_below both;
      once_is = λ v b. has_or once k v ∙ ap₂ ◌||◌ (seen.once_is v b) (ap (λ x. has x v) e) ∙ more_once (has (at s m) v) (holders (take i ms) s v) ∙ ap (ltb 0) (sym (holders_more ms s i v l));
      shared_is = λ v b. has_or shared (bit_and once k) v
          ∙ ap₂ ◌||◌ (seen.shared_is v b) (has_and once k v ∙ ap₂ ◌&&◌ (seen.once_is v b) (ap (λ x. has x v) e))
          ∙ more_shared (has (at s m) v) (holders (take i ms) s v) ∙ ap (ltb 1) (sym (holders_more ms s i v l));
    }

pub seen_all : (ms : List Member) (s : List ℕ) (i once shared : ℕ) → length ms ≤ i → Seen (take i ms) s once shared → shared ≡ mask 64 (λ v. ltb 1 (holders ms s v))
seen_all ms s i once shared h seen = mask_is shared (λ v. ltb 1 (holders ms s v)) seen.shared_below (λ v b. seen.shared_is v b ∙ ap (λ l. ltb 1 (holders l s v)) (take_all i ms h))

-- ---- two members with a value

one_of : (b : Bool) → b ≡ true → ◌≡◌ {A = ℕ} (cond b 1 0) 1
one_of true e = refl
one_of false e = absurd (both_ways false refl e)

held : (f : Member → Bool) (ms : List Member) (i : ℕ) → i < length ms → f (get_or ms i nobody) ≡ true → 1 ≤ count_by f ms
held f [] i l e = absurd (omega arith)
held f (m ∷ ms) zero l e = let one = one_of (f m) e in omega (arith, sum_by-cons (λ x. cond (f x) 1 0) m ms)
held f (m ∷ ms) (suc i) l e = let r = held f ms i (omega arith) e in omega (arith, r, sum_by-cons (λ x. cond (f x) 1 0) m ms)

held_twice : (f : Member → Bool) (ms : List Member) (i j : ℕ) → i < length ms → j < length ms → i ≢ j → f (get_or ms i nobody) ≡ true → f (get_or ms j nobody) ≡ true → 2 ≤ count_by f ms
held_twice f [] i j l k n a b = absurd (omega arith)
held_twice f (m ∷ ms) zero zero l k n a b = absurd (n refl)
held_twice f (m ∷ ms) zero (suc j) l k n a b =
    let one = one_of (f m) a in
    let r = held f ms j (omega arith) b in
    omega (arith, r, sum_by-cons (λ x. cond (f x) 1 0) m ms)
held_twice f (m ∷ ms) (suc i) zero l k n a b =
    let one = one_of (f m) b in
    let r = held f ms i (omega arith) a in
    omega (arith, r, sum_by-cons (λ x. cond (f x) 1 0) m ms)
held_twice f (m ∷ ms) (suc i) (suc j) l k n a b =
    let r = held_twice f ms i j (omega arith) (omega arith) (λ e. n (ap suc e)) a b in
    omega (arith, r, sum_by-cons (λ x. cond (f x) 1 0) m ms)

-- ---- a member whose values no other had takes nothing

each_place : (P : Member → Type 0) (ms : List Member) → ((j : ℕ) → j < length ms → P (get_or ms j nobody)) → Each P ms
each_place P [] e = tt
each_place P (m ∷ ms) e = (e 0 (omega arith), each_place P ms (λ j l. e (suc j) (omega arith)))

no_common : (a b v : ℕ) → bit_and a b ≡ 0 → has a v ≡ true → has b v ≡ true → ⊥
no_common a b v e p q = both_ways true (sym (has_and a b v ∙ ap₂ ◌&&◌ p q) ∙ ap (λ x. has x v) e ∙ has_none v) refl

-- s are the sets that the shared values are of, u those by then
pub takes_none : (ms : List Member) (i shared : ℕ) (s u : List ℕ) → Small u → Narrower u s → i < length ms → shared ≡ mask 64 (λ v. ltb 1 (holders ms s v))
    → (fixed (at u (get_or ms i nobody)) ≡ true → bit_and (at u (get_or ms i nobody)) shared ≡ 0) → cuts (may_stay (get_or ms i nobody) (at u (get_or ms i nobody))) ms u ≡ u
takes_none ms i shared s u h w l k z = elim (cases_Bool (fixed (at u (get_or ms i nobody)))) [
  | inr f ↦ open_takes_none (get_or ms i nobody) (at u (get_or ms i nobody)) ms u h f
  | inl f ↦ cuts_kept (may_stay (get_or ms i nobody) (at u (get_or ms i nobody))) ms u h
      (each_place (λ n. (v : ℕ) → has (at u n) v ≡ true → may_stay (get_or ms i nobody) (at u (get_or ms i nobody)) n v ≡ true) ms (λ j b v e. one j b v e f))
]
  where
    one : (j : ℕ) → j < length ms → (v : ℕ) → has (at u (get_or ms j nobody)) v ≡ true → fixed (at u (get_or ms i nobody)) ≡ true
        → may_stay (get_or ms i nobody) (at u (get_or ms i nobody)) (get_or ms j nobody) v ≡ true
    one j b v e f =
        let m = get_or ms i nobody in
        let n = get_or ms j nobody in
        let below : v < 64 = has_below 64 (at u n) v (h n.voice) e in
        or_right (not (fixed (at u m))) (eqb n.voice m.voice || not (eqb v (least (at u m)))) (elim (cases_eq n.voice m.voice) [
          | inl q ↦ or_left (eqb n.voice m.voice) (not (eqb v (least (at u m)))) (eq-eqb n.voice m.voice q)
          | inr q ↦ or_right (eqb n.voice m.voice) (not (eqb v (least (at u m)))) (ap not (ne_eqb v (least (at u m)) (λ g.
              (let own : has (at u m) v ≡ true = rw g (has_least (at u m) (fixed_pos (at u m) f) (h m.voice)) in
              let two : 2 ≤ holders ms s v = held_twice (λ x. has (at s x) v) ms i j l b (λ x. q (ap (λ y. (get_or ms y nobody).voice) (sym x))) (w.each m.voice v own) (w.each n.voice v e) in
              no_common (at u m) shared v (z f) own (ap (λ x. has x v) k ∙ has_mask 64 (λ v. ltb 1 (holders ms s v)) v below ∙ lt-ltb 1 (holders ms s v) (omega arith))))))
        ])

-- so such a member is passed over: u are the sets by then, k is its set
pub passed_over : (ms : List Member) (i shared k : ℕ) (s u : List ℕ) → Small s → i < length ms → shared ≡ mask 64 (λ v. ltb 1 (holders ms s v)) → u ≡ values_taken ms (take i ms) s
    → k ≡ at u (get_or ms i nobody) → bit_and k shared ≡ 0 → u ≡ values_taken ms (take (i + 1) ms) s
passed_over ms i shared k s u h l e a q z =
    let small : Small u = subst Small (sym a) (taken_small ms (take i ms) s h) in
    let narrow : Narrower u s = subst (λ x. Narrower x s) (sym a) (taken_narrower ms (take i ms) s) in
    takes_more_one ms i s u u l a (sym (takes_none ms i shared s u small narrow l e (λ _. ap (λ x. bit_and x shared) (sym q) ∙ z)))

-- ---- where no fixed member's value is shared, the turn takes nothing

any_at : (f : Member → Bool) (ms : List Member) (i : ℕ) → i < length ms → f (get_or ms i nobody) ≡ true → list_any f ms ≡ true
any_at f [] i l e = absurd (omega arith)
any_at f (m ∷ ms) zero l e = or_left (f m) (list_any f ms) e
any_at f (m ∷ ms) (suc i) l e = or_right (f m) (list_any f ms) (any_at f ms i (omega arith) e)

placed_part : (ms : List Member) (i v : ℕ) (s : List ℕ) → Small s → i < length ms → fixed (at s (get_or ms i nobody)) ≡ true → has (at s (get_or ms i nobody)) v ≡ true → has (fixed_values ms s) v ≡ true
placed_part ms i v s h l f e =
    let m = get_or ms i nobody in
    has_mask 64 (λ w. list_any (λ n. fixed (at s n) && eqb w (least (at s n))) ms) v (has_below 64 (at s m) v (h m.voice) e)
    ∙ any_at (λ n. fixed (at s n) && eqb v (least (at s n))) ms i l
    (and_from (fixed (at s m)) (eqb v (least (at s m))) f (eq-eqb v (least (at s m)) (fixed_member (at s m) v (h m.voice) f e)))

pub stable : (ms : List Member) (shared placed : ℕ) (s : List ℕ) → Small s → shared ≡ mask 64 (λ v. ltb 1 (holders ms s v)) → placed ≡ fixed_values ms s → bit_and shared placed ≡ 0 → values_taken ms ms s ≡ s
stable ms shared placed s h k p z = ap (λ l. values_taken ms l s) (sym (take_all (length ms) ms (le_refl (length ms)))) ∙ upto (length ms) (le_refl (length ms))
  where
    apart : (m : Member) (v : ℕ) → ((w : ℕ) → has (at s m) w ≡ true → has placed w ≡ true) → has (bit_and (at s m) shared) v ≡ false
    apart m v part = has_and (at s m) shared v ∙ elim (cases_Bool (has (at s m) v)) [
      | inr n ↦ ap (λ b. b && has shared v) n
      | inl y ↦ elim (cases_Bool (has shared v)) [
        | inr n ↦ ap (λ b. has (at s m) v && b) n ∙ and_none (has (at s m) v)
        | inl b ↦ absurd (no_common shared placed v z b (part v y))
      ]
    ]

    upto : (i : ℕ) → i ≤ length ms → values_taken ms (take i ms) s ≡ s
    upto zero b = refl
    upto (suc i) b =
        let m = get_or ms i nobody in
        let l : i < length ms = omega arith in
        let none = takes_none ms i shared s s h (narrower_refl s) l k
        (λ f. none_zero 64 (bit_and (at s m) shared) (lt_of_le_of_lt (and_le_l (at s m) shared) (h m.voice))
        (λ v. apart m v (λ w e. ap (λ x. has x w) p ∙ placed_part ms i w s h l f e)))
        in
        ap (λ n. values_taken ms (take n ms) s) (sym (add-one i)) ∙ sym (takes_more_one ms i s s s l (sym (upto i (omega arith))) (sym none))
