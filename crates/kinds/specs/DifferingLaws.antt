-- The kind A keeps the laws.
use Rattle.std.specs.Prelude.{◌≡◌, ℕ, suc, ◌^◌, ◌<◌, ◌≤◌, Bool, true, false, cond, not, ◌&&◌, ◌||◌, ◌≢◌, ◌⊎◌, List, [], ◌∷◌, ◌++◌, map, length, ◌==◌, count_ones, nat_eq, unsigned_abs, refl}
use Rattle.std.proofs.Common.{sym, ap, ap₂, ◌∙◌, subst, inl, inr, arith, lit≤, lit<}
use Rattle.std.proofs.Math.Path.{fun_ext}
use Rattle.std.proofs.Math.Dec.{eqb-suc-suc}
use Rattle.std.proofs.lemmas.List.{get_or_append_left, length-map}
use Rattle.std.proofs.lemmas.Bool.{eqb-true, eqb-false, ne_eqb, eq-eqb, cases_Bool, cases_eq, cases_lt, both_ways, and_parts, and_from, or_left, or_right, or_cases, not-true}
use Rattle.rows.specs.Laws.{Laws, AcceptedFor}
use Rattle.rows.specs.Rows.{alone, RowData}
use Rattle.rows.specs.declared.member.Member.{Member}
use Rattle.sets.specs.Placings.{some_empty, all_fixed, Proper, Within, Narrower, values}
use Rattle.std.specs.List.{list_all, list_any}
use Rattle.sets.specs.Sets.{has, fixed, least, mask}
use Rattle.kinds.specs.Differing.{may_stay, values_taken, all_placed, fixed_values, all_different, differing_rule}
use Rattle.rows.specs.Shared.{at, cuts, distinct, shaped, declared}
use Rattle.rows.specs.declared.trace.Trace.TheVariants.{Settled, Open}
use Rattle.sets.proofs.Membership.{has_mask, mask_below, has_above, has_none, has_least, same_sets, ones_less, ones_zero}
use Rattle.rows.proofs.Cuts.{Each, all_each, each_map, each_both, none_each, any_same, all_same, map_same, Declared, Small, proper_small, fixed_place, cuts_small, cuts_narrower, cuts_within, cuts_more, cuts_nothing, squeezed, narrower_refl, narrower_trans}
use Rattle.rows.proofs.Members.{lettered_by, verdict_parts, stays_verdict, accepted_members, at_more, fixed_value, value_below, Twins, twins, at_twins, same_mark, same_content, checks_by}
use Rattle.sets.proofs.Lists.{value_place}

-- ---- lists whose elements differ

-- elements with the same f have the same g
abbrev Determined : {A : Type 0} → (A → ℕ) → (A → ℕ) → List A → A → Type 0
Determined f g xs x = Each (λ y. f y ≡ f x → g y ≡ g x) xs

pub any_map : {A B : Type 0} (g : A → B) (f : B → Bool) (xs : List A) → list_any f (map g xs) ≡ list_any (λ x. f (g x)) xs
any_map g f [] = refl
any_map g f (x ∷ xs) = ap (λ (b : Bool). f (g x) || b) (any_map g f xs)

head_apart : {A : Type 0} (f : A → ℕ) (x : A) (xs : List A) → not (list_any (nat_eq (f x)) (map f xs)) ≡ true → Each (λ y. f x ≢ f y) xs
head_apart f x xs e =
    each_map (λ y. (f x == f y) ≡ false) (λ y. f x ≢ f y) xs (λ y k. eqb-false (f x) (f y) k)
    (none_each (λ y. nat_eq (f x) (f y)) xs (sym (any_map f (nat_eq (f x)) xs) ∙ not-true (list_any (nat_eq (f x)) (map f xs)) e))

distinct_determined : {A : Type 0} (f g : A → ℕ) (xs : List A) → distinct (map f xs) ≡ true → Each (Determined f g xs) xs
distinct_determined f g [] e = tt
distinct_determined f g (x ∷ xs) e =
    let p = and_parts (not (list_any (nat_eq (f x)) (map f xs))) (distinct (map f xs)) e in
    let far = head_apart f x xs p.0 in (
      (λ _. refl, each_map (λ y. f x ≢ f y) (λ y. f y ≡ f x → g y ≡ g x) xs (λ y n k. absurd (n (sym k))) far),
      each_both (λ y. f x ≢ f y) (Determined f g xs) (Determined f g (x ∷ xs)) xs (λ y n d. (λ k. absurd (n k), d)) far (distinct_determined f g xs p.1),
    )

head_distinct : {A : Type 0} (f : A → ℕ) (x : A) (xs : List A) → Each (λ y. f x ≢ f y) xs → not (list_any (nat_eq (f x)) (map f xs)) ≡ true
head_distinct f x [] d = refl
head_distinct f x (y ∷ xs) d = ap (λ (b : Bool). not (b || list_any (nat_eq (f x)) (map f xs))) (ne_eqb (f x) (f y) d.0) ∙ head_distinct f x xs d.1

determined_distinct : {A : Type 0} (f g : A → ℕ) (xs : List A) → distinct (map g xs) ≡ true → Each (Determined f g xs) xs → distinct (map f xs) ≡ true
determined_distinct f g [] e d = refl
determined_distinct f g (x ∷ xs) e d =
    let p = and_parts (not (list_any (nat_eq (g x)) (map g xs))) (distinct (map g xs)) e in
    and_from (not (list_any (nat_eq (f x)) (map f xs))) (distinct (map f xs))
    (head_distinct f x xs (each_both (λ y. g x ≢ g y) (λ y. f y ≡ f x → g y ≡ g x) (λ y. f x ≢ f y) xs (λ y n k m. n (sym (k (sym m)))) (head_apart g x xs p.0) d.0.1))
    (determined_distinct f g xs p.1 (each_map (Determined f g (x ∷ xs)) (Determined f g xs) xs (λ y k. k.1) d.1))

-- ---- the set of a list's elements, and how many it has

pub set_of : List ℕ → ℕ
set_of l = mask 64 (λ v. list_any (nat_eq v) l)

pub has_set_of : (l : List ℕ) (v : ℕ) → v < 64 → has (set_of l) v ≡ list_any (nat_eq v) l
unfolding set_of
has_set_of l v h = has_mask 64 (λ v. list_any (nat_eq v) l) v h

pub set_of_below : (l : List ℕ) → set_of l < 2 ^ 64
unfolding set_of
set_of_below l = mask_below 64 (λ v. list_any (nat_eq v) l)

again : (x : ℕ) (l : List ℕ) → list_any (nat_eq x) l ≡ true → set_of (x ∷ l) ≡ set_of l
again x l e = same_sets 64 (set_of (x ∷ l)) (set_of l) (set_of_below (x ∷ l)) (set_of_below l) (λ v h. has_set_of (x ∷ l) v h ∙ go v (cases_eq v x) ∙ sym (has_set_of l v h))
  where
    go : (v : ℕ) → (v ≡ x) ⊎ (v ≢ x) → (v == x || list_any (nat_eq v) l) ≡ list_any (nat_eq v) l
    go v (inl k) =
        let here : list_any (nat_eq v) l ≡ true = ap (λ (y : ℕ). list_any (nat_eq y) l) k ∙ e in
        or_right (v == x) (list_any (nat_eq v) l) here ∙ sym here
    go v (inr n) = ap (λ (b : Bool). b || list_any (nat_eq v) l) (ne_eqb v x n)

anew : (x : ℕ) (l : List ℕ) → x < 64 → list_any (nat_eq x) l ≡ false → count_ones (set_of (x ∷ l)) ≡ suc (count_ones (set_of l))
anew x l h e =
    ones_less 64 (set_of (x ∷ l)) (set_of l) x (set_of_below (x ∷ l)) (set_of_below l)
    (has_set_of (x ∷ l) x h ∙ or_left (x == x) (list_any (nat_eq x) l) (eq-eqb x x refl)) (has_set_of l x h ∙ e) (λ w n. go w n (cases_lt w 64))
  where
    go : (w : ℕ) → w ≢ x → (w < 64) ⊎ (64 ≤ w) → has (set_of (x ∷ l)) w ≡ has (set_of l) w
    go w n (inl k) = has_set_of (x ∷ l) w k ∙ ap (λ (b : Bool). b || list_any (nat_eq w) l) (ne_eqb w x n) ∙ sym (has_set_of l w k)
    go w n (inr k) = has_above 64 (set_of (x ∷ l)) w (set_of_below (x ∷ l)) k ∙ sym (has_above 64 (set_of l) w (set_of_below l) k)

none_there : count_ones (set_of []) ≡ 0
none_there = ap count_ones (same_sets 64 (set_of []) 0 (set_of_below []) (lit< tt) (λ v h. has_set_of [] v h ∙ sym (has_none v))) ∙ ones_zero

-- the elements differ where their set has as many values as the list has elements
pub count_distinct : (l : List ℕ) → Each (λ x. x < 64) l → (count_ones (set_of l) ≤ length l) × (distinct l ≡ (count_ones (set_of l) == length l))
count_distinct [] d = (omega (arith, none_there), sym (eq-eqb (count_ones (set_of [])) 0 none_there))
count_distinct (x ∷ l) d = go (cases_Bool (list_any (nat_eq x) l)) (count_distinct l d.1)
  where
    go : (list_any (nat_eq x) l ≡ true) ⊎ (list_any (nat_eq x) l ≡ false) → (count_ones (set_of l) ≤ length l) × (distinct l ≡ (count_ones (set_of l) == length l))
        → (count_ones (set_of (x ∷ l)) ≤ suc (length l)) × (distinct (x ∷ l) ≡ (count_ones (set_of (x ∷ l)) == suc (length l)))
    go (inl e) c =
        let n : count_ones (set_of (x ∷ l)) ≡ count_ones (set_of l) = ap count_ones (again x l e) in
        let b : count_ones (set_of l) ≤ length l = c.0 in
        (omega arith, ap (λ (b : Bool). not b && distinct l) e ∙ sym (ne_eqb (count_ones (set_of (x ∷ l))) (suc (length l)) (λ k. omega arith)))
    go (inr e) c =
        let n : count_ones (set_of (x ∷ l)) ≡ suc (count_ones (set_of l)) = anew x l d.0 e in
        let b : count_ones (set_of l) ≤ length l = c.0 in
        (omega arith, ap (λ (b : Bool). not b && distinct l) e ∙ c.1 ∙ sym (eqb-suc-suc (count_ones (set_of l)) (length l)) ∙ ap (λ (k : ℕ). nat_eq k (suc (length l))) (sym n))

-- two lists of one length with the same values
same_distinct : (k l : List ℕ) → Each (λ x. x < 64) k → Each (λ x. x < 64) l → length k ≡ length l → ((v : ℕ) → v < 64 → list_any (nat_eq v) k ≡ list_any (nat_eq v) l) → distinct k ≡ distinct l
same_distinct k l a b e same =
    (count_distinct k a).1 ∙ ap₂ (λ (x y : ℕ). nat_eq (count_ones x) y)
    (same_sets 64 (set_of k) (set_of l) (set_of_below k) (set_of_below l) (λ v h. has_set_of k v h ∙ same v h ∙ sym (has_set_of l v h))) e
    ∙ sym (count_distinct l b).1

-- ---- the turn

pub taken_small : (ms rest : List Member) (s : List ℕ) → Small s → Small (values_taken ms rest s)
taken_small ms [] s h = h
taken_small ms (m ∷ rest) s h = taken_small ms rest (cuts (may_stay m (at s m)) ms s) (cuts_small (may_stay m (at s m)) ms s h)

pub taken_narrower : (ms rest : List Member) (s : List ℕ) → Narrower (values_taken ms rest s) s
taken_narrower ms [] s = narrower_refl s
taken_narrower ms (m ∷ rest) s =
    let u = cuts (may_stay m (at s m)) ms s in
    narrower_trans (values_taken ms rest u) u s (taken_narrower ms rest u) (cuts_narrower (may_stay m (at s m)) ms s)

stays_by : (m n : Member) (s v w : ℕ) → (fixed s ≡ true → v ≡ least s) → (w ≡ v → n.voice ≡ m.voice) → may_stay m s n w ≡ true
stays_by m n s v w f g = elim (cases_Bool (fixed s)) [
  | inr k ↦ or_left (not (fixed s)) (n.voice == m.voice || not (w == least s)) (ap not k)
  | inl k ↦ or_right (not (fixed s)) (n.voice == m.voice || not (w == least s)) (elim (cases_eq w v) [
    | inl e ↦ or_left (n.voice == m.voice) (not (w == least s)) (eq-eqb n.voice m.voice (g e))
    | inr e ↦ or_right (n.voice == m.voice) (not (w == least s)) (ap not (ne_eqb w (least s) (λ q. e (q ∙ sym (f k)))))
  ])
]

taken_within : (p : List ℕ) (ms rest : List Member) (s : List ℕ) → Small s → Within p s → Declared (length s) rest → Each (Determined (at p) (λ m. m.voice) ms) rest → Within p (values_taken ms rest s)
taken_within p ms [] s h w d e = w
taken_within p ms (m ∷ rest) s h w d e =
    let u = cuts (may_stay m (at s m)) ms s in
    taken_within p ms rest u (cuts_small (may_stay m (at s m)) ms s h)
    (cuts_within p (may_stay m (at s m)) ms s h w (each_map (λ n. at p n ≡ at p m → n.voice ≡ m.voice) (λ n. may_stay m (at s m) n (at p n) ≡ true) ms
    (λ n k. stays_by m n (at s m) (at p m) (at p n) (fixed_value s p m.voice h w d.0) k) e.0))
    (subst (λ (k : ℕ). Declared k rest) (sym (cuts_narrower (may_stay m (at s m)) ms s).long) d.1) e.1

taken_more : (ms rest : List Member) (s t : List ℕ) → Declared (length s) ms → Declared (length s) rest → values_taken ms rest (s ++ t) ≡ values_taken ms rest s ++ t
taken_more ms [] s t d e = refl
taken_more ms (m ∷ rest) s t d e =
    let u = cuts (may_stay m (at s m)) ms s in
    let long : length s ≡ length u = sym (cuts_narrower (may_stay m (at s m)) ms s).long in
    ap (values_taken ms rest) (ap (λ (x : ℕ). cuts (may_stay m x) ms (s ++ t)) (get_or_append_left s t 0 m.voice e.0) ∙ cuts_more (may_stay m (at s m)) ms s t d)
    ∙ taken_more ms rest u t (subst (λ (k : ℕ). Declared k ms) long d) (subst (λ (k : ℕ). Declared k rest) long e.1)

-- all is fixed and the turn changes nothing: members with the same value have the same voice
determined_by : (m n : Member) (s t : ℕ) → fixed s ≡ true → may_stay m s n (least t) ≡ true → least t ≡ least s → n.voice ≡ m.voice
determined_by m n s t f e k = elim (or_cases (not (fixed s)) (n.voice == m.voice || not (least t == least s)) e) [
  | inl x ↦ absurd (both_ways (fixed s) (not-true (fixed s) x) f)
  | inr x ↦ elim (or_cases (n.voice == m.voice) (not (least t == least s)) x) [
    | inl y ↦ eqb-true n.voice m.voice y
    | inr y ↦ absurd (both_ways (least t == least s) (not-true (least t == least s) y) (eq-eqb (least t) (least s) k))
  ]
]

nothing_taken : (ms rest : List Member) (s : List ℕ) → Proper s → all_fixed s ≡ true → Declared (length s) ms → Declared (length s) rest → values_taken ms rest s ≡ s
    → Each (Determined (λ m. least (at s m)) (λ m. m.voice) ms) rest
nothing_taken ms [] s h f d e k = tt
nothing_taken ms (m ∷ rest) s h f d e k =
    let u = cuts (may_stay m (at s m)) ms s in
    let small = proper_small s h in
    let one : u ≡ s = squeezed (values_taken ms rest u) u s (cuts_small (may_stay m (at s m)) ms s small) small (taken_narrower ms rest u) (cuts_narrower (may_stay m (at s m)) ms s) k in (
      each_both (λ n. n.voice < length s) (λ n. (v : ℕ) → has (at s n) v ≡ true → may_stay m (at s m) n v ≡ true) (λ n. least (at s n) ≡ least (at s m) → n.voice ≡ m.voice) ms
          (λ n l g. determined_by m n (at s m) (at s n) (fixed_place s m.voice f e.0) (g (least (at s n)) (has_least (at s n) (h n.voice l).0 (h n.voice l).1)))
          d (cuts_nothing (may_stay m (at s m)) ms s small d one),
      nothing_taken ms rest s h f d e.1 (ap (values_taken ms rest) (sym one) ∙ k),
    )

-- ---- the laws

members : (r : RowData) (s : List ℕ) → AcceptedFor all_different r s → Declared (length s) r.members
members r s a = accepted_members (shaped 0x41 1 r) (differing_rule r) r (length s) a.yes

apart : (r : RowData) (s : List ℕ) → AcceptedFor all_different r s → distinct (map (λ m. m.voice) r.members) ≡ true
apart r s a = (and_parts (list_all (λ m. nat_eq (unsigned_abs m.argument) 0) r.members) (distinct (map (λ m. m.voice) r.members)) (verdict_parts (shaped 0x41 1 r) (declared (length s) r) (differing_rule r) a.yes).rule).1

checks : (r : RowData) (s : List ℕ) → AcceptedFor all_different r s → Proper s → all_fixed s ≡ true → distinct (map (at (values s)) r.members) ≡ false → some_empty (values_taken r.members r.members s) ≡ true
checks r s a h f e =
    let ms = r.members in
    checks_by (values_taken ms ms s) s (distinct (map (at (values s)) ms)) (taken_small ms ms s (proper_small s h)) (proper_small s h) (taken_narrower ms ms s) f
    (λ k. ap distinct (map_same (at (values s)) (λ m. least (at s m)) ms (each_map (λ m. m.voice < length s) (λ m. at (values s) m ≡ least (at s m)) ms (λ m l. value_place s m.voice l) (members r s a)))
    ∙ determined_distinct (λ m. least (at s m)) (λ m. m.voice) ms (apart r s a) (nothing_taken ms ms s h f (members r s a) (members r s a) k)) e

-- all fixed and different, then it holds
settled_holds : (s p : List ℕ) (ms : List Member) → Small s → Within p s → Declared (length s) ms → (list_all (λ m. fixed (at s m)) ms && distinct (map (λ m. least (at s m)) ms)) ≡ true
    → distinct (map (at p) ms) ≡ true
settled_holds s p ms h w d e =
    let k = and_parts (list_all (λ m. fixed (at s m)) ms) (distinct (map (λ m. least (at s m)) ms)) e in
    ap distinct (map_same (at p) (λ m. least (at s m)) ms (each_both (λ m. m.voice < length s) (λ m. fixed (at s m) ≡ true) (λ m. at p m ≡ least (at s m)) ms
    (λ m l f. fixed_value s p m.voice h w l f) d (all_each (λ m. fixed (at s m)) ms k.0))) ∙ k.1

abbrev fixed_as : List ℕ → ℕ → Member → Bool
fixed_as s v m = fixed (at s m) && v == least (at s m)

abbrev open_as : List ℕ → List ℕ → ℕ → Member → Bool
open_as s p v m = not (fixed (at s m)) && v == at p m

any_split : {A : Type 0} (h f g : A → Bool) (xs : List A) → Each (λ x. h x ≡ (f x || g x)) xs → list_any h xs ≡ (list_any f xs || list_any g xs)
any_split h f g [] e = refl
any_split h f g (x ∷ xs) e = ap₂ ◌||◌ e.0 (any_split h f g xs e.1) ∙ swap (f x) (g x) (list_any f xs) (list_any g xs)
  where
    swap : (a b c d : Bool) → ((a || b) || (c || d)) ≡ ((a || c) || (b || d))
    swap true b c d = refl
    swap false true true d = refl
    swap false true false d = refl
    swap false false c d = refl

value_split : (s p : List ℕ) (v : ℕ) (ms : List Member) → Small s → Within p s → Declared (length s) ms → list_any (nat_eq v) (map (at p) ms) ≡ (list_any (fixed_as s v) ms || list_any (open_as s p v) ms)
value_split s p v ms h w d = any_map (at p) (nat_eq v) ms ∙ any_split (λ m. nat_eq v (at p m)) (fixed_as s v) (open_as s p v) ms
    (each_map (λ m. m.voice < length s) (λ m. (v == at p m) ≡ (fixed_as s v m || open_as s p v m)) ms (λ m l. go m (fixed (at s m)) refl l) d)
  where
    go : (m : Member) (b : Bool) → fixed (at s m) ≡ b → m.voice < length s → (v == at p m) ≡ ((b && v == least (at s m)) || (not b && v == at p m))
    go m true f l = ap (nat_eq v) (fixed_value s p m.voice h w l f) ∙ sym (or_none (v == least (at s m)))
      where
        or_none : (b : Bool) → (b || false) ≡ b
        or_none true = refl
        or_none false = refl
    go m false f l = refl

projects_open : (s t p q : List ℕ) (ms : List Member) → Twins s t p q → Declared (length s) ms
    → mask 64 (λ v. list_any (fixed_as s v) ms) ≡ mask 64 (λ v. list_any (fixed_as t v) ms) → distinct (map (at p) ms) ≡ distinct (map (at q) ms)
projects_open s t p q ms w d e =
    let dt : Declared (length t) ms = subst (λ (n : ℕ). Declared n ms) w.alike.long d in
    same_distinct (map (at p) ms) (map (at q) ms) (below s p w.small_s w.in_s ms d) (below t q w.small_t w.in_t ms dt) (length-map ms (at p) ∙ sym (length-map ms (at q)))
    (λ v h. value_split s p v ms w.small_s w.in_s d
    ∙ ap₂ ◌||◌ (sym (has_mask 64 (λ v. list_any (fixed_as s v) ms) v h) ∙ ap (λ (x : ℕ). has x v) e ∙ has_mask 64 (λ v. list_any (fixed_as t v) ms) v h)
    (any_same (open_as s p v) (open_as t q v) ms (each_map (λ m. m.voice < length s) (λ m. open_as s p v m ≡ open_as t q v m) ms (λ m l. one v m l) d))
    ∙ sym (value_split t q v ms w.small_t w.in_t dt))
  where
    below : (s p : List ℕ) → Small s → Within p s → (ms : List Member) → Declared (length s) ms → Each (λ x. x < 64) (map (at p) ms)
    below s p h k [] d = tt
    below s p h k (m ∷ ms) d = (value_below s p m.voice h k d.0, below s p h k ms d.1)

    one : (v : ℕ) (m : Member) → m.voice < length s → open_as s p v m ≡ open_as t q v m
    one v m l = elim (at_twins s t p q m.voice w l) [
      | inl b ↦ ap (λ (x : Bool). not x && v == at p m) b.fix_s ∙ sym (ap (λ (x : Bool). not x && v == at q m) b.fix_t)
      | inr b ↦ ap₂ (λ (x : Bool) (y : ℕ). not x && v == y) (b.open_s ∙ sym b.open_t) b.same
    ]

projects : (s t p q : List ℕ) (ms : List Member) → Twins s t p q → Declared (length s) ms
    → cond (all_placed ms s) Settled (Open (fixed_values ms s)) ≡ cond (all_placed ms t) Settled (Open (fixed_values ms t)) → distinct (map (at p) ms) ≡ distinct (map (at q) ms)
projects s t p q ms w d e =
    let mark : all_placed ms s ≡ all_placed ms t = same_mark (all_placed ms s) (all_placed ms t) (fixed_values ms s) (fixed_values ms t) e in
    elim (cases_Bool (all_placed ms s)) [
      | inl k ↦ settled_holds s p ms w.small_s w.in_s d k ∙ sym (settled_holds t q ms w.small_t w.in_t (subst (λ (n : ℕ). Declared n ms) w.alike.long d) (sym mark ∙ k))
      | inr k ↦ projects_open s t p q ms w d (same_content (all_placed ms s) (all_placed ms t) (fixed_values ms s) (fixed_values ms t) e k (sym mark ∙ k))
    ]

pub all_different_lawful : Laws (alone all_different)
all_different_lawful = record {
  lettered = lettered_by all_different refl (lit≤ tt) (lit≤ tt);
  narrows = λ r s a h. taken_narrower r.members r.members s;
  sound = λ r s p a h w e. taken_within p r.members r.members s (proper_small s h) w (members r s a) (distinct_determined (at p) (λ m. m.voice) r.members e);
  checks = checks;
  projects = λ r s t p q a hs ht k e ws wt g. projects s t p q r.members (twins s t p q hs ht k ws wt g) (members r s a) e;
  stays = λ r n k a. record { shape = a.shape; yes = stays_verdict (shaped 0x41 1 r) (differing_rule r) r n k a.yes };
  holds_more = λ r p q a _. ap distinct (map_same (at (p ++ q)) (at p) r.members (at_more r.members p q (members r p a)));
  turn_more = λ r s t a _. taken_more r.members r.members s t (members r s a) (members r s a);
  trace_more = λ r s t a _.
      let same = at_more r.members s t (members r s a) in
      ap₂ (λ (b : Bool) (c : ℕ). cond b Settled (Open c))
      (ap₂ ◌&&◌ (all_same (λ m. fixed (at (s ++ t) m)) (λ m. fixed (at s m)) r.members (each_map (λ m. at (s ++ t) m ≡ at s m) (λ m. fixed (at (s ++ t) m) ≡ fixed (at s m)) r.members (λ m e. ap fixed e) same))
      (ap distinct (map_same (λ m. least (at (s ++ t) m)) (λ m. least (at s m)) r.members (each_map (λ m. at (s ++ t) m ≡ at s m) (λ m. least (at (s ++ t) m) ≡ least (at s m)) r.members (λ m e. ap least e) same))))
      (ap (mask 64) (fun_ext (λ v. any_same (fixed_as (s ++ t) v) (fixed_as s v) r.members
      (each_map (λ m. at (s ++ t) m ≡ at s m) (λ m. fixed_as (s ++ t) v m ≡ fixed_as s v m) r.members (λ m e. ap (λ (x : ℕ). fixed x && v == least x) e) same))));
}
