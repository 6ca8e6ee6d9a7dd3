-- The kind E keeps the laws.
use Rattle.std.specs.Prelude.{◌≡◌, ℕ, zero, suc, ◌+◌, ◌<◌, ◌≤◌, Bool, true, false, ◌&&◌, ◌⊎◌, List, [], ◌∷◌, ◌++◌, length, Ok, ◌==◌, nat_eq, nat_lt, slice_index, slice_index_or, unsigned_abs, refl}
use Rattle.std.proofs.Common.{sym, ap, ap₂, ◌∙◌, subst, inl, inr, le_of_suc-le-suc, arith, lit≤}
use Rattle.std.proofs.lemmas.List.{get_or_append_left}
use Rattle.std.proofs.lemmas.Bool.{eqb-true, ne_eqb, eq-eqb, cases_lt, and_parts, and_from, or_left, or_right, ltb-true, lt-ltb, le-ltb}
use Rattle.rows.specs.Laws.{Laws, AcceptedFor}
use Rattle.rows.specs.Rows.{alone, RowData}
use Rattle.rows.specs.declared.member.Member.{Member}
use Rattle.rows.specs.declared.trace.Trace.{Trace}
use Rattle.rows.specs.Traces.{content_word}
use Rattle.sets.specs.Placings.{some_empty, all_fixed, Proper, Within, Narrower, values}
use Rattle.sets.specs.Sets.{has, fixed, least}
use Rattle.kinds.specs.Entries.{index, result_voice, entry, reached, narrow_index, narrow_result, meets, element_trace, element, element_rule}
use Rattle.rows.specs.Shared.{cut, shaped}
use Rattle.sets.proofs.Membership.{has_least, fixed_member}
use Rattle.rows.proofs.Cuts.{Small, proper_small, fixed_place, cut_small, cut_narrower, cut_within, cut_more, cut_nothing, length_cut, squeezed, narrower_trans}
use Rattle.rows.proofs.Members.{lettered_by, verdict_parts, parts_verdict, value_below, Twins, twins, BothFixed, BothOpen, at_twins, same_mark, checks_by}
use Rattle.sets.proofs.Lists.{value_place}

-- ---- entries

pub entry_past : (ms : List Member) (i : ℕ) → length ms ≤ i → entry ms i ≡ 64
entry_past [] i h = refl
entry_past (m ∷ ms) zero h = absurd (out (length ms) h)
  where
    out : (n : ℕ) → suc n ≤ 0 → ⊥
    out n h = omega arith
entry_past (m ∷ ms) (suc i) h = entry_past ms i (le_of_suc-le-suc h)

reached_at : (ms : List Member) (f : ℕ → Bool) (i : ℕ) → i < length ms → f i ≡ true → reached ms f (entry ms i) ≡ true
reached_at [] f i h e = absurd (out i h)
  where
    out : (i : ℕ) → i < 0 → ⊥
    out i h = omega arith
reached_at (m ∷ ms) f zero h e =
    or_left (f zero && unsigned_abs m.argument == unsigned_abs m.argument) (reached ms (λ i. f (suc i)) (unsigned_abs m.argument))
    (and_from (f zero) (unsigned_abs m.argument == unsigned_abs m.argument) e (eq-eqb (unsigned_abs m.argument) (unsigned_abs m.argument) refl))
reached_at (m ∷ ms) f (suc i) h e =
    or_right (f zero && unsigned_abs m.argument == entry ms i) (reached ms (λ i. f (suc i)) (entry ms i)) (reached_at ms (λ i. f (suc i)) i (le_of_suc-le-suc h) e)

-- of a value the entry alone tells whether the row holds
meets_entry : (r : RowData) (i v : ℕ) → v < 64 → meets r i v ≡ (v == entry r.members i)
meets_entry r i v h = elim (cases_lt i (length r.members)) [
  | inl l ↦ ap (λ (b : Bool). b && v == entry r.members i) (lt-ltb i (length r.members) l)
  | inr l ↦ ap (λ (b : Bool). b && v == entry r.members i) (le-ltb i (length r.members) l)
      ∙ sym (ap (nat_eq v) (entry_past r.members i l) ∙ ne_eqb v 64 (λ e. omega arith))
]

-- ---- the laws

two_voices : (r : RowData) (n : ℕ) → element.accepts r n ≡ Ok tt → (index r < n) × (result_voice r < n)
two_voices r n a =
    let b = and_parts (nat_lt (index r) n) (nat_lt (result_voice r) n) (verdict_parts (shaped 0x45 3 r) (nat_lt (index r) n && nat_lt (result_voice r) n) (element_rule r) a).voices in
    (ltb-true (index r) n b.0, ltb-true (result_voice r) n b.1)

abbrev may_index : RowData → List ℕ → ℕ → Bool
may_index r s i = nat_lt i (length r.members) && has (slice_index s (result_voice r)) (entry r.members i)

abbrev may_result : RowData → List ℕ → ℕ → Bool
may_result r s v = reached r.members (has (slice_index s (index r))) v

small_indexed : (r : RowData) (s : List ℕ) → Small s → Small (narrow_index r s)
small_indexed r s h = cut_small (index r) (may_index r s) s h

small_turn : (r : RowData) (s : List ℕ) → Small s → Small (narrow_result r (narrow_index r s))
small_turn r s h = cut_small (result_voice r) (may_result r (narrow_index r s)) (narrow_index r s) (small_indexed r s h)

narrows : (r : RowData) (s : List ℕ) → Narrower (narrow_result r (narrow_index r s)) s
narrows r s =
    narrower_trans (narrow_result r (narrow_index r s)) (narrow_index r s) s (cut_narrower (result_voice r) (may_result r (narrow_index r s)) (narrow_index r s)) (cut_narrower (index r) (may_index r s) s)

sound : (r : RowData) (s p : List ℕ) → AcceptedFor element r s → Proper s → Within p s → meets r (slice_index p (index r)) (slice_index p (result_voice r)) ≡ true → Within p (narrow_result r (narrow_index r s))
sound r s p a h w e =
    let i = slice_index_or p (index r) 0 in
    let v = slice_index_or p (result_voice r) 0 in
    let b = and_parts (nat_lt i (length r.members)) (v == entry r.members i) e in
    let here : v ≡ entry r.members i = eqb-true v (entry r.members i) b.1 in
    let d = two_voices r (length s) a.yes in
    let w1 : Within p (narrow_index r s) = cut_within p s (index r) (may_index r s) (proper_small s h) w
    (and_from (nat_lt i (length r.members)) (has (slice_index s (result_voice r)) (entry r.members i)) b.0 (ap (has (slice_index s (result_voice r))) (sym here) ∙ w.each (result_voice r) d.1)) in
    let l : index r < length (narrow_index r s) = subst (λ (n : ℕ). index r < n) (sym (length_cut (index r) (may_index r s) s)) d.0 in
    cut_within p (narrow_index r s) (result_voice r) (may_result r (narrow_index r s)) (small_indexed r s (proper_small s h)) w1
    (ap (may_result r (narrow_index r s)) here ∙ reached_at r.members (has (slice_index (narrow_index r s) (index r))) i (ltb-true i (length r.members) b.0) (w1.each (index r) l))

checks : (r : RowData) (s : List ℕ) → AcceptedFor element r s → Proper s → all_fixed s ≡ true → meets r (slice_index (values s) (index r)) (slice_index (values s) (result_voice r)) ≡ false
    → some_empty (narrow_result r (narrow_index r s)) ≡ true
checks r s a h f e =
    let small = proper_small s h in
    let d = two_voices r (length s) a.yes in
    let x = slice_index_or s (index r) 0 in
    let y = slice_index_or s (result_voice r) 0 in
    checks_by (narrow_result r (narrow_index r s)) s (meets r (slice_index (values s) (index r)) (slice_index (values s) (result_voice r))) (small_turn r s small) small (narrows r s) f
    (λ k. let one : narrow_index r s ≡ s = squeezed (narrow_result r (narrow_index r s)) (narrow_index r s) s (small_indexed r s small) small
    (cut_narrower (result_voice r) (may_result r (narrow_index r s)) (narrow_index r s)) (cut_narrower (index r) (may_index r s) s) k in
    let b = and_parts (nat_lt (least x) (length r.members)) (has y (entry r.members (least x)))
    (cut_nothing (index r) (may_index r s) s (least x) one d.0 (has_least x (h (index r) d.0).0 (h (index r) d.0).1)) in
    ap₂ (meets r) (value_place s (index r) d.0) (value_place s (result_voice r) d.1)
    ∙ and_from (nat_lt (least x) (length r.members)) (least y == entry r.members (least x)) b.0
    (eq-eqb (least y) (entry r.members (least x)) (sym (fixed_member y (entry r.members (least x)) (small (result_voice r)) (fixed_place s (result_voice r) f d.1) b.1)))) e

abbrev trace_on : RowData → List ℕ → Bool → Bool → Trace
trace_on r s = element_trace r (slice_index s (index r)) (slice_index s (result_voice r))

projects : (r : RowData) (s t p q : List ℕ) → Twins s t p q → index r < length s → result_voice r < length s
    → trace_on r s (fixed (slice_index s (index r))) (fixed (slice_index s (result_voice r))) ≡ trace_on r t (fixed (slice_index t (index r))) (fixed (slice_index t (result_voice r)))
    → meets r (slice_index p (index r)) (slice_index p (result_voice r)) ≡ meets r (slice_index q (index r)) (slice_index q (result_voice r))
projects r s t p q w lx ly e = go (at_twins s t p q (index r) w lx) (at_twins s t p q (result_voice r) w ly)
  where
    known : (a b : Bool) → fixed (slice_index s (index r)) ≡ a → fixed (slice_index t (index r)) ≡ a → fixed (slice_index s (result_voice r)) ≡ b → fixed (slice_index t (result_voice r)) ≡ b
        → trace_on r s a b ≡ trace_on r t a b
    known a b fs ft gs gt = sym (ap₂ (trace_on r s) fs gs) ∙ e ∙ ap₂ (trace_on r t) ft gt

    low_p : slice_index_or p (result_voice r) 0 < 64
    low_p = value_below s p (result_voice r) w.small_s w.in_s ly

    low_q : slice_index_or q (result_voice r) 0 < 64
    low_q = value_below t q (result_voice r) w.small_t w.in_t (subst (λ (n : ℕ). result_voice r < n) w.alike.long ly)

    go : BothFixed s t p q (index r) ⊎ BothOpen s t p q (index r) → BothFixed s t p q (result_voice r) ⊎ BothOpen s t p q (result_voice r)
        → meets r (slice_index p (index r)) (slice_index p (result_voice r)) ≡ meets r (slice_index q (index r)) (slice_index q (result_voice r))
    go (inl x) (inl y) =
        ap₂ (meets r) x.val_s y.val_s
        ∙ same_mark (meets r (least (slice_index s (index r))) (least (slice_index s (result_voice r)))) (meets r (least (slice_index t (index r))) (least (slice_index t (result_voice r)))) 0 0
        (known true true x.fix_s x.fix_t y.fix_s y.fix_t)
        ∙ sym (ap₂ (meets r) x.val_t y.val_t)
    go (inl x) (inr y) =
        meets_entry r (slice_index p (index r)) (slice_index p (result_voice r)) low_p
        ∙ ap₂ nat_eq y.same (ap (entry r.members) x.val_s ∙ ap content_word (known true false x.fix_s x.fix_t y.open_s y.open_t) ∙ sym (ap (entry r.members) x.val_t))
        ∙ sym (meets_entry r (slice_index q (index r)) (slice_index q (result_voice r)) low_q)
    go (inr x) (inl y) =
        ap₂ (meets r) x.same (y.val_s ∙ ap content_word (known false true x.open_s x.open_t y.fix_s y.fix_t) ∙ sym y.val_t)
    go (inr x) (inr y) = ap₂ (meets r) x.same y.same

stays : (r : RowData) (n k : ℕ) → element.accepts r n ≡ Ok tt → element.accepts r (n + k) ≡ Ok tt
stays r n k a =
    let d = two_voices r n a in
    let v = verdict_parts (shaped 0x45 3 r) (nat_lt (index r) n && nat_lt (result_voice r) n) (element_rule r) a in
    parts_verdict (shaped 0x45 3 r) (nat_lt (index r) (n + k) && nat_lt (result_voice r) (n + k)) (element_rule r) v.shape
    (and_from (nat_lt (index r) (n + k)) (nat_lt (result_voice r) (n + k)) (lt-ltb (index r) (n + k) (omega arith)) (lt-ltb (result_voice r) (n + k) (omega arith))) v.rule

turn_more : (r : RowData) (s t : List ℕ) → AcceptedFor element r s → narrow_result r (narrow_index r (s ++ t)) ≡ narrow_result r (narrow_index r s) ++ t
turn_more r s t a =
    let d = two_voices r (length s) a.yes in
    let u = narrow_index r s in
    let long : length s ≡ length u = sym (length_cut (index r) (may_index r s) s) in
    let lx : index r < length u = subst (λ (n : ℕ). index r < n) long d.0 in
    let ly : result_voice r < length u = subst (λ (n : ℕ). result_voice r < n) long d.1 in
    let first : narrow_index r (s ++ t) ≡ u ++ t =
    ap (λ (y : ℕ). cut (index r) (λ i. nat_lt i (length r.members) && has y (entry r.members i)) (s ++ t)) (get_or_append_left s t 0 (result_voice r) d.1)
    ∙ cut_more (index r) (may_index r s) s t d.0 in
    ap (narrow_result r) first
    ∙ ap (λ (x : ℕ). cut (result_voice r) (λ v. reached r.members (has x) v) (u ++ t)) (get_or_append_left u t 0 (index r) lx)
    ∙ cut_more (result_voice r) (may_result r u) u t ly

pub element_lawful : Laws (alone element)
element_lawful = record {
  lettered = lettered_by element refl (lit≤ tt) (lit≤ tt);
  narrows = λ r s a h. narrows r s;
  sound = sound;
  checks = checks;
  projects = λ r s t p q a hs ht k e ws wt g. projects r s t p q (twins s t p q hs ht k ws wt g) (two_voices r (length s) a.yes).0 (two_voices r (length s) a.yes).1 e;
  stays = λ r n k a. record { shape = a.shape; yes = stays r n k a.yes };
  holds_more = λ r p q a _. ap₂ (meets r) (get_or_append_left p q 0 (index r) (two_voices r (length p) a.yes).0) (get_or_append_left p q 0 (result_voice r) (two_voices r (length p) a.yes).1);
  turn_more = λ r s t a _. turn_more r s t a;
  trace_more = λ r s t a _. ap₂ (λ (x y : ℕ). element_trace r x y (fixed x) (fixed y))
      (get_or_append_left s t 0 (index r) (two_voices r (length s) a.yes).0) (get_or_append_left s t 0 (result_voice r) (two_voices r (length s) a.yes).1);
}
