-- Tests of what comes out against what is written.
use Rattle.std.proofs.Common.{◌≡◌, Bool, true, false, ◌&&◌, eqb, int_eq, List, [], ◌∷◌, map, sym, refl, ap, ap₂, ◌∙◌}
use Rattle.std.proofs.lemmas.Bool.{both_ways, and_parts, eqb-true}
use Rattle.std.proofs.lemmas.Bool.Decides.{Decides-int_eq}
use Rattle.std.specs.Prelude.{zip}
use Rattle.sets.specs.Placings.{same}
use Rattle.sets.proofs.Lists.{same_is}
use Rattle.rows.specs.declared.member.Member.{Member}
use Rattle.rows.specs.Rows.{RowData}
use Rattle.search.specs.Search.{Level, Status}
use Rattle.search.specs.Search.Status.{fresh, going}
use Rattle.rows.specs.Reasons.{Judgement}
use Rattle.search.specs.Calls.{TableData, Call, Answer}
use Rattle.search.specs.Calls.Answer.{done, refused, found, none, stopped, wrote}
use Rattle.rows.specs.Reasons.Judgement.{passes, refused_under}
use Rattle.search.specs.Histories.{calls_in}

-- ---- lists

abbrev pub same_list : {X : Type 0} → (X → X → Bool) → List X → List X → Bool
same_list test [] [] = true
same_list test (x ∷ xs) (y ∷ ys) = test x y && same_list test xs ys
same_list test xs ys = false

pub same_list_is : {X : Type 0} (test : X → X → Bool) → ((x y : X) → test x y ≡ true → x ≡ y) → (xs ys : List X) → same_list test xs ys ≡ true → xs ≡ ys
same_list_is test so [] [] e = refl
same_list_is {X} test so (x ∷ xs) (y ∷ ys) e =
    let p = and_parts (test x y) (same_list test xs ys) e in
    ap₂ {C = List X} (λ (a : X) (b : List X). a ∷ b) (so x y p.0) (same_list_is test so xs ys p.1)
same_list_is test so xs ys e = absurd (both_ways false refl e)

-- ---- judgements and answers

abbrev pub same_judgement : Judgement → Judgement → Bool
same_judgement passes passes = true
same_judgement (refused_under n) (refused_under k) = eqb n k
same_judgement x y = false

pub same_judgement_is : (x y : Judgement) → same_judgement x y ≡ true → x ≡ y
same_judgement_is passes passes e = refl
same_judgement_is (refused_under n) (refused_under k) e = ap refused_under (eqb-true n k e)
same_judgement_is x y e = absurd (both_ways false refl e)

abbrev pub same_answer : Answer → Answer → Bool
same_answer done done = true
same_answer (refused n) (refused k) = eqb n k
same_answer (found p) (found q) = same p q
same_answer none none = true
same_answer stopped stopped = true
same_answer (wrote n b) (wrote k d) = eqb n k && same b d
same_answer x y = false

pub same_answer_is : (x y : Answer) → same_answer x y ≡ true → x ≡ y
same_answer_is done done e = refl
same_answer_is (refused n) (refused k) e = ap refused (eqb-true n k e)
same_answer_is (found p) (found q) e = ap found (same_is p q e)
same_answer_is none none e = refl
same_answer_is stopped stopped e = refl
same_answer_is (wrote n b) (wrote k d) e =
    let p = and_parts (eqb n k) (same b d) e in ap₂ wrote (eqb-true n k p.0) (same_is b d p.1)
same_answer_is x y e = absurd (both_ways false refl e)

abbrev pub answers_of : List (Call × Answer) → List Answer
answers_of h = map (λ x. x.1) h

-- answers to the same calls
pub same_answers_is : (h k : List (Call × Answer)) → calls_in h ≡ calls_in k → same_list same_answer (answers_of h) (answers_of k) ≡ true → h ≡ k
same_answers_is h k c e =
    sym (paired h)
    ∙ ap₂ {C = List (Call × Answer)} zip c (same_list_is same_answer same_answer_is (answers_of h) (answers_of k) e)
    ∙ paired k
  where
    paired : (h : List (Call × Answer)) → zip (calls_in h) (answers_of h) ≡ h
    paired [] = refl
    paired ((c, a) ∷ h) = ap (λ (k : List (Call × Answer)). (c, a) ∷ k) (paired h)

-- ---- tables

abbrev same_member : Member → Member → Bool
same_member x y = eqb x.voice y.voice && int_eq x.argument y.argument

same_member_is : (x y : Member) → same_member x y ≡ true → x ≡ y
same_member_is x y e =
    let p = and_parts (eqb x.voice y.voice) (int_eq x.argument y.argument) e in
    ap₂ {C = Member} (λ v a. record { voice = v; argument = a }) (eqb-true x.voice y.voice p.0) ((Decides-int_eq x.argument y.argument).0 p.1)

abbrev same_row : RowData → RowData → Bool
same_row x y = eqb x.letter y.letter && (same x.body y.body && same_list same_member x.members y.members)

same_row_is : (x y : RowData) → same_row x y ≡ true → x ≡ y
same_row_is x y e =
    let p = and_parts (eqb x.letter y.letter) (same x.body y.body && same_list same_member x.members y.members) e in
    let q = and_parts (same x.body y.body) (same_list same_member x.members y.members) p.1 in
    ap (λ l. record x { letter = l }) (eqb-true x.letter y.letter p.0)
    ∙ ap₂ {C = RowData} (λ b ms. record { letter = y.letter; body = b; members = ms }) (same_is x.body y.body q.0) (same_list_is same_member same_member_is x.members y.members q.1)

abbrev same_level : Level → Level → Bool
same_level l k = same l.sets k.sets && (eqb l.voice k.voice && eqb l.left k.left)

same_level_is : (l k : Level) → same_level l k ≡ true → l ≡ k
same_level_is l k e =
    let p = and_parts (same l.sets k.sets) (eqb l.voice k.voice && eqb l.left k.left) e in
    let q = and_parts (eqb l.voice k.voice) (eqb l.left k.left) p.1 in
    ap (λ s. record l { sets = s }) (same_is l.sets k.sets p.0)
    ∙ ap₂ {C = Level} (λ v n. record { sets = k.sets; voice = v; left = n }) (eqb-true l.voice k.voice q.0) (eqb-true l.left k.left q.1)

abbrev same_status : Status → Status → Bool
same_status fresh fresh = true
same_status (going l ls) (going k ks) = same_level l k && same_list same_level ls ks
same_status (Status.satisfied p) (Status.satisfied q) = same p q
same_status Status.unsatisfiable Status.unsatisfiable = true
same_status x y = false

same_status_is : (x y : Status) → same_status x y ≡ true → x ≡ y
same_status_is fresh fresh e = refl
same_status_is (going l ls) (going k ks) e =
    let p = and_parts (same_level l k) (same_list same_level ls ks) e in
    ap₂ going (same_level_is l k p.0) (same_list_is same_level same_level_is ls ks p.1)
same_status_is (Status.satisfied p) (Status.satisfied q) e = ap Status.satisfied (same_is p q e)
same_status_is Status.unsatisfiable Status.unsatisfiable e = refl
same_status_is x y e = absurd (both_ways false refl e)

-- what is given of a table, and what the search has come to
abbrev same_given : TableData → TableData → Bool
same_given t u = same t.voices u.voices && same_list same_row t.rows u.rows

abbrev same_counts : TableData → TableData → Bool
same_counts t u = eqb t.opened u.opened && eqb t.exhausted u.exhausted

abbrev pub same_table : TableData → TableData → Bool
same_table t u = same_given t u && (same_status t.status u.status && same_counts t u)

pub same_table_is : (t u : TableData) → same_table t u ≡ true → t ≡ u
same_table_is t u e =
    let p = and_parts (same_given t u) (same_status t.status u.status && same_counts t u) e in
    let g = and_parts (same t.voices u.voices) (same_list same_row t.rows u.rows) p.0 in
    let q = and_parts (same_status t.status u.status) (same_counts t u) p.1 in
    let n = and_parts (eqb t.opened u.opened) (eqb t.exhausted u.exhausted) q.1 in
    ap₂ {C = TableData} (λ v r. record t { voices = v; rows = r }) (same_is t.voices u.voices g.0) (same_list_is same_row same_row_is t.rows u.rows g.1)
    ∙ ap₂ {C = TableData} (λ p o. record t { voices = u.voices; rows = u.rows; status = p; opened = o }) (same_status_is t.status u.status q.0) (eqb-true t.opened u.opened n.0)
    ∙ ap (λ e. record u { exhausted = e }) (eqb-true t.exhausted u.exhausted n.1)
