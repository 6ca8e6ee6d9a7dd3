-- The kind C keeps the laws.
use Rattle.std.specs.Prelude.{◌≡◌, ℕ, zero, suc, ◌^◌, ◌<◌, ◌≤◌, Bool, true, false, cond, not, ◌⊎◌, List, [], ◌∷◌, ◌++◌, length, take, ◌==◌, nat_eq, refl}
use Rattle.std.proofs.Common.{sym, ap, ap₂, ◌∙◌, subst, inl, inr, arith, lit≤}
use Rattle.std.proofs.lemmas.Bool.{eqb-true, ne_eqb, cases_Bool, both_ways, and_from, or_left, or_right, or_cases, not-true, not-false}
use Rattle.rows.specs.Laws.{Laws, AcceptedFor}
use Rattle.rows.specs.Rows.{alone, RowData}
use Rattle.rows.specs.declared.member.Member.{Member}
use Rattle.sets.specs.Placings.{some_empty, all_fixed, Proper, Within, Narrower, values}
use Rattle.std.specs.List.{filter, list_any}
use Rattle.sets.specs.Sets.{has, fixed, least, sift}
use Rattle.kinds.specs.Literals.{literal_holds, holds_at, refuted, may_hold, certain, units, clause, clause_rule}
use Rattle.rows.specs.Shared.{at, shaped, declared}
use Rattle.rows.specs.declared.trace.Trace.TheVariants.{Settled, Open}
use Rattle.sets.proofs.Membership.{has_sift, has_none, has_below, has_least, sift_below, sift_part, fixed_member}
use Rattle.rows.proofs.Cuts.{Each, each_map, each_both, none_each, any_same, Declared, Small, proper_small, fixed_place, cuts_small, cuts_narrower, cuts_within, cuts_more, cuts_nothing, narrower_refl}
use Rattle.rows.proofs.Members.{lettered_by, verdict_parts, stays_verdict, accepted_members, shaped_long, at_more, Twins, twins, at_twins, same_mark, checks_by}
use Rattle.sets.proofs.Lists.{value_place}

-- ---- the members that are chosen

filter_pass : {A : Type 0} (f : A → Bool) (xs : List A) → Each (λ x. f x ≡ true) (filter f xs)
filter_pass f [] = tt
filter_pass f (x ∷ xs) = go (f x) refl (filter_pass f xs)
  where
    go : (b : Bool) → f x ≡ b → Each (λ x. f x ≡ true) (filter f xs) → Each (λ x. f x ≡ true) (cond b (x ∷ filter f xs) (filter f xs))
    go true e d = (e, d)
    go false e d = d

filter_each : {A : Type 0} (P : A → Type 0) (f : A → Bool) (xs : List A) → Each P xs → Each P (filter f xs)
filter_each P f [] d = tt
filter_each P f (x ∷ xs) d = go (f x) d.0 (filter_each P f xs d.1)
  where
    go : (b : Bool) → P x → Each P (filter f xs) → Each P (cond b (x ∷ filter f xs) (filter f xs))
    go true e d = (e, d)
    go false e d = d

filter_any : {A : Type 0} (f g : A → Bool) (xs : List A) → Each (λ x. g x ≡ true → f x ≡ true) xs → list_any g xs ≡ true → list_any g (filter f xs) ≡ true
filter_any f g [] d e = e
filter_any f g (x ∷ xs) d e = go (f x) refl (or_cases (g x) (list_any g xs) e) (filter_any f g xs d.1)
  where
    go : (b : Bool) → f x ≡ b → (g x ≡ true) ⊎ (list_any g xs ≡ true) → (list_any g xs ≡ true → list_any g (filter f xs) ≡ true) → list_any g (cond b (x ∷ filter f xs) (filter f xs)) ≡ true
    go true p (inl k) rest = or_left (g x) (list_any g (filter f xs)) k
    go true p (inr k) rest = or_right (g x) (list_any g (filter f xs)) (rest k)
    go false p (inl k) rest = absurd (both_ways (f x) p (d.0 k))
    go false p (inr k) rest = rest k

filter_back : {A : Type 0} (f g : A → Bool) (xs : List A) → list_any g (filter f xs) ≡ true → list_any g xs ≡ true
filter_back f g [] e = e
filter_back f g (x ∷ xs) e = go (f x) (filter_back f g xs) e
  where
    go : (b : Bool) → (list_any g (filter f xs) ≡ true → list_any g xs ≡ true) → list_any g (cond b (x ∷ filter f xs) (filter f xs)) ≡ true → list_any g (x ∷ xs) ≡ true
    go true rest e = elim (or_cases (g x) (list_any g (filter f xs)) e) [ inl k ↦ or_left (g x) (list_any g xs) k | inr k ↦ or_right (g x) (list_any g xs) (rest k) ]
    go false rest e = or_right (g x) (list_any g xs) (rest e)

filter_same : {A : Type 0} (f g : A → Bool) (xs : List A) → Each (λ x. f x ≡ g x) xs → filter f xs ≡ filter g xs
filter_same f g [] e = refl
filter_same f g (x ∷ xs) e = ap₂ (λ b ys. cond b (x ∷ ys) ys) e.0 (filter_same f g xs e.1)

-- ---- a set of which no value passes, and one of which some does

none_pass : (f : ℕ → Bool) (s v : ℕ) → s < 2 ^ 64 → (sift f s == 0) ≡ true → has s v ≡ true → f v ≡ false
none_pass f s v h e b = elim (cases_Bool (f v)) [
  | inl k ↦ absurd (both_ways (has 0 v) (has_none v) (ap (λ (x : ℕ). has x v) (sym (eqb-true (sift f s) 0 e)) ∙ has_sift f s v (has_below 64 s v h b) ∙ and_from (has s v) (f v) b k))
  | inr k ↦ k
]

one_passes : (f : ℕ → Bool) (s v : ℕ) → s < 2 ^ 64 → has s v ≡ true → f v ≡ true → (sift f s == 0) ≡ false
one_passes f s v h b k = ne_eqb (sift f s) 0 (λ e. both_ways (has 0 v) (has_none v) (ap (λ (x : ℕ). has x v) (sym e) ∙ has_sift f s v (has_below 64 s v h b) ∙ and_from (has s v) (f v) b k))

-- of a fixed set, not none passes: its value does
fixed_passes : (f : ℕ → Bool) (s : ℕ) → s < 2 ^ 64 → fixed s ≡ true → (sift f s == 0) ≡ false → f (least s) ≡ true
fixed_passes f s h k e =
    let some : 0 < sift f s = above (sift f s) e in
    let p = sift_part f s (least (sift f s)) (has_least (sift f s) some (sift_below f s)) in
    ap f (sym (fixed_member s (least (sift f s)) h k p.0)) ∙ p.1
  where
    above : (n : ℕ) → (n == 0) ≡ false → 0 < n
    above zero e = absurd (both_ways (0 == 0) e refl)
    above (suc n) e = omega arith

-- ---- the turn

units_small : (l ms : List Member) (s : List ℕ) → Small s → Small (units l ms s)
units_small [] ms s h = cuts_small (λ _ _. false) (take 1 ms) s h
units_small (m ∷ []) ms s h = cuts_small literal_holds (m ∷ []) s h
units_small (m ∷ (n ∷ rest)) ms s h = h

units_narrower : (l ms : List Member) (s : List ℕ) → Narrower (units l ms s) s
units_narrower [] ms s = cuts_narrower (λ _ _. false) (take 1 ms) s
units_narrower (m ∷ []) ms s = cuts_narrower literal_holds (m ∷ []) s
units_narrower (m ∷ (n ∷ rest)) ms s = narrower_refl s

units_within : (p : List ℕ) (l ms : List Member) (s : List ℕ) → Small s → Within p s → list_any (λ m. literal_holds m (at p m)) l ≡ true → Within p (units l ms s)
units_within p [] ms s h w e = absurd (both_ways false refl e)
units_within p (m ∷ []) ms s h w e = cuts_within p literal_holds (m ∷ []) s h w (elim (or_cases (literal_holds m (at p m)) false e) [ inl k ↦ k | inr k ↦ absurd (both_ways false refl k) ], tt)
units_within p (m ∷ (n ∷ rest)) ms s h w e = w

first_declared : (n : ℕ) (ms : List Member) → Declared n ms → Declared n (take 1 ms)
first_declared n [] d = tt
first_declared n (m ∷ ms) d = (d.0, tt)

units_more : (l ms : List Member) (s t : List ℕ) → Declared (length s) l → Declared (length s) ms → units l ms (s ++ t) ≡ units l ms s ++ t
units_more [] ms s t dl d = cuts_more (λ _ _. false) (take 1 ms) s t (first_declared (length s) ms d)
units_more (m ∷ []) ms s t dl d = cuts_more literal_holds (m ∷ []) s t dl
units_more (m ∷ (n ∷ rest)) ms s t dl d = refl

-- ---- the laws

members : (r : RowData) (s : List ℕ) → AcceptedFor clause r s → Declared (length s) r.members
members r s a = accepted_members (shaped 0x43 1 r) (clause_rule r) r (length s) a.yes

sound : (r : RowData) (s p : List ℕ) → AcceptedFor clause r s → Proper s → Within p s → list_any (holds_at p) r.members ≡ true → Within p (units (filter (may_hold s) r.members) r.members s)
sound r s p a h w e =
    units_within p (filter (may_hold s) r.members) r.members s (proper_small s h) w
    (filter_any (may_hold s) (holds_at p) r.members
    (each_map (λ m. m.voice < length s) (λ m. holds_at p m ≡ true → may_hold s m ≡ true) r.members
    (λ m l k. ap not (one_passes (literal_holds m) (at s m) (at p m) (proper_small s h m.voice) (w.each m.voice l) k)) (members r s a)) e)

-- all is fixed and the turn changes nothing: the first literal that is not refuted is true
still : (s : List ℕ) (l ms : List Member) → Proper s → all_fixed s ≡ true → 1 ≤ length ms → Declared (length s) ms → Declared (length s) l → Each (λ m. may_hold s m ≡ true) l
    → units l ms s ≡ s → (list_any (holds_at (values s)) l ≡ true) ⊎ ⊥
still s [] [] h f c d dl e k = absurd (omega arith)
still s [] (m ∷ ms) h f c d dl e k =
    inr (both_ways false refl ((cuts_nothing (λ _ _. false) (m ∷ []) s (proper_small s h) (d.0, tt) k).0 (least (at s m)) (has_least (at s m) (h m.voice d.0).0 (h m.voice d.0).1)))
still s (m ∷ l) ms h f c d dl e k =
    inl (or_left (holds_at (values s) m) (list_any (holds_at (values s)) l)
    (ap (literal_holds m) (value_place s m.voice dl.0) ∙ fixed_passes (literal_holds m) (at s m) (proper_small s h m.voice) (fixed_place s m.voice f dl.0) (not-true (refuted s m) e.0)))

checks : (r : RowData) (s : List ℕ) → AcceptedFor clause r s → Proper s → all_fixed s ≡ true → list_any (holds_at (values s)) r.members ≡ false
    → some_empty (units (filter (may_hold s) r.members) r.members s) ≡ true
checks r s a h f e =
    let l = filter (may_hold s) r.members in
    checks_by (units l r.members s) s (list_any (holds_at (values s)) r.members) (units_small l r.members s (proper_small s h)) (proper_small s h) (units_narrower l r.members s) f
    (λ k. elim (still s l r.members h f (shaped_long 0x43 1 r (verdict_parts (shaped 0x43 1 r) (declared (length s) r) (clause_rule r) a.yes).shape).0 (members r s a) (filter_each (λ m. m.voice < length s) (may_hold s) r.members (members r s a))
    (filter_pass (may_hold s) r.members) k) [ inl b ↦ filter_back (may_hold s) (holds_at (values s)) r.members b | inr b ↦ absurd b ]) e

-- a certain literal is true in each placing within the sets
certain_true : (s p : List ℕ) (ms : List Member) → Small s → Within p s → Declared (length s) ms → list_any (certain s) ms ≡ true → list_any (holds_at p) ms ≡ true
certain_true s p [] h w d e = e
certain_true s p (m ∷ ms) h w d e = elim (or_cases (certain s m) (list_any (certain s) ms) e) [
  | inl k ↦ or_left (holds_at p m) (list_any (holds_at p) ms) (not-false (holds_at p m) (none_pass (λ v. not (literal_holds m v)) (at s m) (at p m) (h m.voice) k (w.each m.voice d.0)))
  | inr k ↦ or_right (holds_at p m) (list_any (holds_at p) ms) (certain_true s p ms h w d.1 k)
]

-- a literal over a fixed set that is not certain is false
fixed_false : (m : Member) (s v : ℕ) → s < 2 ^ 64 → fixed s ≡ true → v ≡ least s → (sift (λ w. not (literal_holds m w)) s == 0) ≡ false → literal_holds m v ≡ false
fixed_false m s v h f e k = ap (literal_holds m) e ∙ not-true (literal_holds m (least s)) (fixed_passes (λ w. not (literal_holds m w)) s h f k)

uncertain : (s t p q : List ℕ) (m : Member) → Twins s t p q → m.voice < length s → certain s m ≡ false → certain t m ≡ false → holds_at p m ≡ holds_at q m
uncertain s t p q m w l cs ct = elim (at_twins s t p q m.voice w l) [
  | inl b ↦ fixed_false m (at s m) (at p m) (w.small_s m.voice) b.fix_s b.val_s cs ∙ sym (fixed_false m (at t m) (at q m) (w.small_t m.voice) b.fix_t b.val_t ct)
  | inr b ↦ ap (literal_holds m) b.same
]

uncertain_all : (s t p q : List ℕ) (ms : List Member) → Twins s t p q → Declared (length s) ms → list_any (certain s) ms ≡ false → list_any (certain t) ms ≡ false
    → list_any (holds_at p) ms ≡ list_any (holds_at q) ms
uncertain_all s t p q ms w d cs ct =
    any_same (holds_at p) (holds_at q) ms
    (each_both (λ m. m.voice < length s) (λ m. (certain s m ≡ false) × (certain t m ≡ false)) (λ m. holds_at p m ≡ holds_at q m) ms (λ m l c. uncertain s t p q m w l c.0 c.1) d
    (each_both (λ m. certain s m ≡ false) (λ m. certain t m ≡ false) (λ m. (certain s m ≡ false) × (certain t m ≡ false)) ms (λ m x y. (x, y)) (none_each (certain s) ms cs) (none_each (certain t) ms ct)))

projects : (s t p q : List ℕ) (ms : List Member) → Twins s t p q → Declared (length s) ms
    → cond (list_any (certain s) ms) Settled (Open 0) ≡ cond (list_any (certain t) ms) Settled (Open 0) → list_any (holds_at p) ms ≡ list_any (holds_at q) ms
projects s t p q ms w d e =
    let mark : list_any (certain s) ms ≡ list_any (certain t) ms = same_mark (list_any (certain s) ms) (list_any (certain t) ms) 0 0 e in
    elim (cases_Bool (list_any (certain s) ms)) [
      | inl k ↦ certain_true s p ms w.small_s w.in_s d k ∙ sym (certain_true t q ms w.small_t w.in_t (subst (λ (n : ℕ). Declared n ms) w.alike.long d) (sym mark ∙ k))
      | inr k ↦ uncertain_all s t p q ms w d k (sym mark ∙ k)
    ]

pub clause_lawful : Laws (alone clause)
clause_lawful = record {
  lettered = lettered_by clause refl (lit≤ tt) (lit≤ tt);
  narrows = λ r s a h. units_narrower (filter (may_hold s) r.members) r.members s;
  sound = sound;
  checks = checks;
  projects = λ r s t p q a hs ht k e ws wt g. projects s t p q r.members (twins s t p q hs ht k ws wt g) (members r s a) e;
  stays = λ r n k a. record { shape = a.shape; yes = stays_verdict (shaped 0x43 1 r) (clause_rule r) r n k a.yes };
  holds_more = λ r p q a _. any_same (holds_at (p ++ q)) (holds_at p) r.members
      (each_map (λ m. at (p ++ q) m ≡ at p m) (λ m. holds_at (p ++ q) m ≡ holds_at p m) r.members (λ m e. ap (literal_holds m) e) (at_more r.members p q (members r p a)));
  turn_more = λ r s t a _.
      ap (λ l. units l r.members (s ++ t)) (filter_same (may_hold (s ++ t)) (may_hold s) r.members
      (each_map (λ m. at (s ++ t) m ≡ at s m) (λ m. may_hold (s ++ t) m ≡ may_hold s m) r.members (λ m e. ap (λ (x : ℕ). not (sift (literal_holds m) x == 0)) e) (at_more r.members s t (members r s a))))
      ∙ units_more (filter (may_hold s) r.members) r.members s t (filter_each (λ m. m.voice < length s) (may_hold s) r.members (members r s a)) (members r s a);
  trace_more = λ r s t a _. ap (λ b. cond b Settled (Open 0)) (any_same (certain (s ++ t)) (certain s) r.members
      (each_map (λ m. at (s ++ t) m ≡ at s m) (λ m. certain (s ++ t) m ≡ certain s m) r.members (λ m e. ap (λ (x : ℕ). nat_eq (sift (λ v. not (literal_holds m v)) x) 0) e) (at_more r.members s t (members r s a))));
}
