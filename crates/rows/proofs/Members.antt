-- What the kinds' proofs share: an accepted row, a member's value and set, a turn where all is fixed.
use Rattle.std.proofs.Common.{◌≡◌, ℕ, ◌+◌, ◌<◌, ◌≤◌, Bool, true, false, cond, ◌&&◌, eqb, ltb, leb, ◌⊎◌, List, ◌++◌, length, get_or, Ok, sym, refl, ap, ◌∙◌, subst, inl, inr, arith}
use Rattle.std.proofs.lemmas.List.{get_or_append_left}
use Rattle.std.proofs.lemmas.Bool.{eqb-true, leb-true, cases_Bool, both_ways, ltb-true, lt-ltb}
use Rattle.rows.specs.Laws.{barred, Lettered, Shaped, Alike, Agree}
use Rattle.rows.specs.Rows.{KindMeaning, alone, RowData, count}
use Rattle.rows.specs.declared.member.Member.{Member}
use Rattle.rows.specs.Traces.{mark_word, content_word}
use Rattle.sets.specs.Placings.{some_empty, all_fixed, Proper, Within, Narrower}
use Rattle.sets.specs.Sets.{fixed, least}
use Rattle.rows.specs.Shared.{at, shaped, verdict, declared}
use Rattle.rows.specs.declared.trace.Trace.TheVariants.{Settled, Open}
use Rattle.sets.proofs.Membership.{fixed_member, has_below}
use Rattle.rows.proofs.Cuts.{Each, all_each, each_all, each_map, Declared, Small, proper_small, nothing_lost}

-- ---- an Ok tt row

pub record Parts (a b c : Bool) : Type 0 where
  pub shape : a ≡ true
  pub voices : b ≡ true
  pub rule : c ≡ true

pub verdict_parts : (a b c : Bool) → verdict a b c ≡ Ok tt → Parts a b c
verdict_parts true true true e = record { shape = refl; voices = refl; rule = refl }
verdict_parts true true false e = let z : ◌≡◌ {A = ℕ} 0 1 = cc in absurd (omega arith)
verdict_parts true false c e = let z : ◌≡◌ {A = ℕ} 0 1 = cc in absurd (omega arith)
verdict_parts false b c e = let z : ◌≡◌ {A = ℕ} 0 1 = cc in absurd (omega arith)

pub parts_verdict : (a b c : Bool) → a ≡ true → b ≡ true → c ≡ true → verdict a b c ≡ Ok tt
parts_verdict a b c p q r = rw (p, q, r)

pub declared_members : (n : ℕ) (r : RowData) → declared n r ≡ true → Declared n r.members
declared_members n r e = each_map (λ m. ltb m.voice n ≡ true) (λ m. m.voice < n) r.members (λ m. ltb-true m.voice n) (all_each (λ m. ltb m.voice n) r.members e)

declared_more : (n k : ℕ) (r : RowData) → declared n r ≡ true → declared (n + k) r ≡ true
declared_more n k r e =
    each_all (λ m. ltb m.voice (n + k)) r.members
    (each_map (λ m. m.voice < n) (λ m. ltb m.voice (n + k) ≡ true) r.members (λ m h. lt-ltb m.voice (n + k) (omega arith)) (declared_members n r e))

pub stays_verdict : (a c : Bool) (r : RowData) (n k : ℕ) → verdict a (declared n r) c ≡ Ok tt → verdict a (declared (n + k) r) c ≡ Ok tt
stays_verdict a c r n k e =
    let p = verdict_parts a (declared n r) c e in
    parts_verdict a (declared (n + k) r) c p.shape (declared_more n k r p.voices) p.rule

pub accepted_members : (a c : Bool) (r : RowData) (n : ℕ) → verdict a (declared n r) c ≡ Ok tt → Declared n r.members
accepted_members a c r n e = declared_members n r (verdict_parts a (declared n r) c e).voices

all_five : (a b c d e : Bool) → (a && (b && (c && (d && e)))) ≡ true → (a ≡ true) × (b ≡ true) × (c ≡ true) × (d ≡ true) × (e ≡ true)
all_five true true true true true k = (refl, refl, refl, refl, refl)
all_five true true true true false k = absurd (both_ways false refl k)
all_five true true true false e k = absurd (both_ways false refl k)
all_five true true false d e k = absurd (both_ways false refl k)
all_five true false c d e k = absurd (both_ways false refl k)
all_five false b c d e k = absurd (both_ways false refl k)

pub shaped_long : (l b : ℕ) (r : RowData) → shaped l b r ≡ true → (1 ≤ length r.members) × (length r.members ≤ 32)
shaped_long l b r e =
    let z = all_five (eqb r.letter l) (eqb (length r.body) b) (leb 1 (count r)) (leb (count r) 32) (eqb (length r.members) (count r)) e in
    let low : 1 ≤ count r = leb-true 1 (count r) z.2 in
    let high : count r ≤ 32 = leb-true (count r) 32 z.3 in
    let same : length r.members ≡ count r = eqb-true (length r.members) (count r) z.4 in
    (omega arith, omega arith)

-- the letter and the body length of a kind by itself
pub lettered_by : (k : KindMeaning) → barred k.letter ≡ false → 1 ≤ k.body_length → k.body_length ≤ 16 → (l : ℕ) → eqb l k.letter ≡ true → Lettered (alone k) l
lettered_by k f a b l e = record { free = ap barred (eqb-true l k.letter e) ∙ f; some_body = a; short_body = b }

pub shaped_by : (k : KindMeaning) (r : RowData) → shaped k.letter k.body_length r ≡ true → Shaped (alone k) r
shaped_by k r e =
    let z = all_five (eqb r.letter k.letter) (eqb (length r.body) k.body_length) (leb 1 (count r)) (leb (count r) 32) (eqb (length r.members) (count r)) e in
    record {
      known_letter = z.0;
      long_body = eqb-true (length r.body) k.body_length z.1;
      counted = eqb-true (length r.members) (count r) z.4;
      some_members = leb-true 1 (count r) z.2;
      few_members = leb-true (count r) 32 z.3;
    }

-- ---- more voices

pub at_more : (ms : List Member) (s t : List ℕ) → Declared (length s) ms → Each (λ m. at (s ++ t) m ≡ at s m) ms
at_more ms s t d = each_map (λ m. m.voice < length s) (λ m. at (s ++ t) m ≡ at s m) ms (λ m h. get_or_append_left s t 0 m.voice h) d

-- ---- a value and its set

pub fixed_value : (s p : List ℕ) (i : ℕ) → Small s → Within p s → i < length s → fixed (get_or s i 0) ≡ true → get_or p i 0 ≡ least (get_or s i 0)
fixed_value s p i h w l f = fixed_member (get_or s i 0) (get_or p i 0) (h i) f (w.each i l)

pub value_below : (s p : List ℕ) (i : ℕ) → Small s → Within p s → i < length s → get_or p i 0 < 64
value_below s p i h w l = has_below 64 (get_or s i 0) (get_or p i 0) (h i) (w.each i l)

-- ---- two lists of sets alike, and a placing within each that agree where they are open

pub record Twins (s t p q : List ℕ) : Type 0 where
  pub small_s : Small s
  pub small_t : Small t
  pub alike : Alike s t
  pub in_s : Within p s
  pub in_t : Within q t
  pub agree : Agree s p q

pub twins : (s t p q : List ℕ) → Proper s → Proper t → Alike s t → Within p s → Within q t → Agree s p q → Twins s t p q
twins s t p q hs ht a ws wt g = record { small_s = proper_small s hs; small_t = proper_small t ht; alike = a; in_s = ws; in_t = wt; agree = g }

-- at a voice: fixed in both, and each placing has the fixed value; or open in both, and the placings agree
pub record BothFixed (s t p q : List ℕ) (i : ℕ) : Type 0 where
  pub fix_s : fixed (get_or s i 0) ≡ true
  pub fix_t : fixed (get_or t i 0) ≡ true
  pub val_s : get_or p i 0 ≡ least (get_or s i 0)
  pub val_t : get_or q i 0 ≡ least (get_or t i 0)

pub record BothOpen (s t p q : List ℕ) (i : ℕ) : Type 0 where
  pub open_s : fixed (get_or s i 0) ≡ false
  pub open_t : fixed (get_or t i 0) ≡ false
  pub same : get_or p i 0 ≡ get_or q i 0

pub at_twins : (s t p q : List ℕ) (i : ℕ) → Twins s t p q → i < length s → BothFixed s t p q i ⊎ BothOpen s t p q i
at_twins s t p q i w l = elim (cases_Bool (fixed (get_or s i 0))) [
  | inl f ↦ (let g : fixed (get_or t i 0) ≡ true = sym (w.alike.same_fixed i) ∙ f in
      inl (record {
        fix_s = f;
        fix_t = g;
        val_s = fixed_value s p i w.small_s w.in_s l f;
        val_t = fixed_value t q i w.small_t w.in_t (subst (λ (n : ℕ). i < n) w.alike.long l) g;
      }))
  | inr f ↦ inr (record { open_s = f; open_t = sym (w.alike.same_fixed i) ∙ f; same = w.agree i f })
]

-- ---- traces

pub same_mark : (a b : Bool) (c d : ℕ) → cond a Settled (Open c) ≡ cond b Settled (Open d) → a ≡ b
same_mark true true c d e = refl
same_mark true false c d e = absurd (apart (ap mark_word e))
  where
    apart : ◌≡◌ {A = ℕ} 0 1 → ⊥
    apart e = omega arith
same_mark false true c d e = absurd (apart (ap mark_word e))
  where
    apart : ◌≡◌ {A = ℕ} 1 0 → ⊥
    apart e = omega arith
same_mark false false c d e = refl

pub same_content : (a b : Bool) (c d : ℕ) → cond a Settled (Open c) ≡ cond b Settled (Open d) → a ≡ false → b ≡ false → c ≡ d
same_content true b c d e p q = absurd (both_ways true p refl)
same_content false true c d e p q = absurd (both_ways true q refl)
same_content false false c d e p q = ap content_word e

-- ---- where all is fixed

pub checks_by : (t s : List ℕ) (holds : Bool) → Small t → Small s → Narrower t s → all_fixed s ≡ true → (t ≡ s → holds ≡ true) → holds ≡ false → some_empty t ≡ true
checks_by t s holds ht hs n f g e = elim (cases_Bool (some_empty t)) [
  | inl k ↦ k
  | inr k ↦ absurd (both_ways holds e (g (nothing_lost t s ht hs n f k)))
]
