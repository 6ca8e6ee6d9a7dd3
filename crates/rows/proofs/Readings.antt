-- The steps of reading a row from bytes.
use Rattle.std.proofs.Common.{◌≡◌, ℕ, zero, suc, ◌+◌, ◌-◌, ◌*◌, ◌<◌, ◌≤◌, Bool, true, false, cond, ◌&&◌, ltb, leb, List, [], ◌∷◌, ◌++◌, length, get_or, take, drop, is_ok, Ok, Err, Result, sym, refl, ap, ◌∙◌, append_assoc, arith, w16, to_z}
use Rattle.std.proofs.lemmas.Bool.{eq-eqb, ltb-true, ltb-false, eqb-true, leb-true, and_parts, both_ways, cond_both}
use Rattle.std.proofs.lemmas.List.{take_rest, take_all, take_at, append-nil, length_push, length-drop, length-take, drop_more, drop_all}
use Rattle.rows.specs.declared.refusal.RowRefusal.{RowRefusal}
use Rattle.rows.specs.declared.refusal.RowRefusal.TheVariants.{UnknownLetter, BadCount, WrongLength, UnmarkedMember, ByKind}
use Rattle.rows.specs.declared.refusal.KindRefusal.{KindRefusal}
use Rattle.rows.specs.declared.member.Member.{Member}
use Rattle.rows.specs.Rows.{RowData, Meaning}
use Rattle.rows.specs.Laws.{Laws}
use Rattle.rows.specs.Bytes.{letter_byte, count_byte, head_length, lettered, counted, right_length, marked, Layout, members_in, decode, member_bytes}
use Rattle.rows.specs.Reading.{checked, layout, layout_fault, of_kind, row_verdict, row_after, with_bytes, with_members_in}
use Rattle.rows.specs.Views.{blank, with_byte, with_member}

-- ---- members of four bytes

-- what follows the first member, as the checker has it
abbrev pub others : List ℕ → List ℕ
others bs = take (length bs - 4) (drop 4 bs)

-- the first member
abbrev pub first : List ℕ → Member
first bs = record { voice = get_or bs 1 0; argument = to_z w16 (get_or bs 2 0 + get_or bs 3 0 * 256) }

pub marked_more : (bs : List ℕ) → 4 ≤ length bs → get_or bs 0 0 ≡ 0x4D → marked (others bs) ≡ marked bs
marked_more [] h e = absurd (omega arith)
marked_more (a ∷ []) h e = absurd (omega arith)
marked_more (a ∷ v ∷ []) h e = absurd (omega arith)
marked_more (a ∷ v ∷ low ∷ []) h e = absurd (omega arith)
marked_more (a ∷ v ∷ low ∷ high ∷ bs) h e = ap marked (take_rest (a ∷ v ∷ low ∷ high ∷ bs) 4) ∙ sym (ap (λ x. x && marked bs) (eq-eqb a 0x4D e))

pub members_more : (bs : List ℕ) → 4 ≤ length bs → members_in bs ≡ first bs ∷ members_in (others bs)
members_more [] h = absurd (omega arith)
members_more (a ∷ []) h = absurd (omega arith)
members_more (a ∷ v ∷ []) h = absurd (omega arith)
members_more (a ∷ v ∷ low ∷ []) h = absurd (omega arith)
members_more (a ∷ v ∷ low ∷ high ∷ bs) h =
    let e : low + 0x100 * high ≡ low + high * 256 = omega arith in
    λ i. record { voice = v; argument = to_z w16 (e i) } ∷ members_in (sym (take_rest (a ∷ v ∷ low ∷ high ∷ bs) 4) i)

pub members_end : (bs : List ℕ) → length bs < 4 → members_in bs ≡ []
members_end [] h = refl
members_end (a ∷ []) h = refl
members_end (a ∷ v ∷ []) h = refl
members_end (a ∷ v ∷ low ∷ []) h = refl
members_end (a ∷ v ∷ low ∷ high ∷ bs) h = absurd (omega arith)

pub members_few : (bs : List ℕ) (n : ℕ) → length bs ≤ 4 * n → length (members_in bs) ≤ n
members_few [] n h = omega arith
members_few (a ∷ []) n h = omega arith
members_few (a ∷ v ∷ []) n h = omega arith
members_few (a ∷ v ∷ low ∷ []) n h = omega arith
members_few (a ∷ v ∷ low ∷ high ∷ bs) zero h = absurd (omega arith)
members_few (a ∷ v ∷ low ∷ high ∷ bs) (suc n) h = let r = members_few bs n (omega arith) in omega arith

pub members_long : (xs : List Member) → length (member_bytes xs) ≡ 4 * length xs
members_long [] = refl
members_long (x ∷ xs) = let r = members_long xs in omega arith

-- ---- one more, where there is room

module _ {A : Type 0} where
  take_onto : (n : ℕ) (xs ys : List A) → take n (take n xs ++ ys) ≡ take n (xs ++ ys)
  take_onto zero xs ys = refl
  take_onto (suc n) [] ys = refl
  take_onto (suc n) (x ∷ xs) ys = ap (λ (l : List A). x ∷ l) (take_onto n xs ys)

  -- a list of at most n, pushed to where it has fewer
  abbrev pub pushed : ℕ → List A → A → List A
  pushed n xs x = cond (ltb (length xs) n) (xs ++ (x ∷ [])) xs

  pushed_is : (n : ℕ) (xs : List A) (x : A) → length xs ≤ n → pushed n xs x ≡ take n (xs ++ (x ∷ []))
  pushed_is n xs x h =
      cond_both (ltb (length xs) n) (xs ++ (x ∷ [])) xs (λ (l : List A). l ≡ take n (xs ++ (x ∷ [])))
      (λ e. sym (take_all n (xs ++ (x ∷ [])) (omega (arith, length_push xs x, ltb-true (length xs) n e))))
      (λ e. sym (take_at xs (x ∷ []) n (omega (arith, ltb-false (length xs) n e))))

  -- a step of a loop that pushes what is left
  pub push_on : (n : ℕ) (xs : List A) (x : A) (ys : List A) → length xs ≤ n → take n (pushed n xs x ++ ys) ≡ take n (xs ++ (x ∷ ys))
  push_on n xs x ys h =
      ap (λ (l : List A). take n (l ++ ys)) (pushed_is n xs x h) ∙ take_onto n (xs ++ (x ∷ [])) ys ∙ ap (take n) (append_assoc xs (x ∷ []) ys)

  -- and its end
  pub push_end : (n : ℕ) (xs : List A) → length xs ≤ n → take n (xs ++ []) ≡ xs
  push_end n xs h = ap (take n) (append-nil xs) ∙ take_all n xs h

-- ---- the two loops that push

pub body_more : (r s : RowData) (b : Bool) (bs : List ℕ) (i : ℕ) → length r.body ≤ 16 → i < length bs → b ≡ ltb (length r.body) 16
    → s ≡ cond b (with_byte r (get_or bs i 0)) r → with_bytes s (drop (i + 1) bs) ≡ with_bytes r (drop i bs)
body_more r s b bs i few h e f =
    let x = get_or bs i 0 in
    let ys = drop (i + 1) bs in
    let d : take 16 (pushed 16 r.body x ++ ys) ≡ take 16 (r.body ++ drop i bs) = push_on 16 r.body x ys few ∙ ap (λ (l : List ℕ). take 16 (r.body ++ l)) (sym (drop_more bs i 0 h)) in
    ap (λ (t : RowData). with_bytes t ys) (f ∙ ap (λ t. cond t (with_byte r x) r) e ∙ inside x (ltb (length r.body) 16))
    ∙ (λ j. record { letter = r.letter; body = d j; members = r.members })
  where
    inside : (x : ℕ) (t : Bool) → cond t (with_byte r x) r ≡ record { letter = r.letter; body = cond t (r.body ++ (x ∷ [])) r.body; members = r.members }
    inside x true = refl
    inside x false = refl

pub body_end : (r : RowData) (bs : List ℕ) (i : ℕ) → length r.body ≤ 16 → length bs ≤ i → with_bytes r (drop i bs) ≡ r
body_end r bs i few h =
    let d : take 16 (r.body ++ drop i bs) ≡ r.body = ap (λ (l : List ℕ). take 16 (r.body ++ l)) (drop_all i bs h) ∙ push_end 16 r.body few in
    λ j. record { letter = r.letter; body = d j; members = r.members }

pub row_members_more : (r s : RowData) (b : Bool) (x : Member) (bs : List ℕ) → length r.members ≤ 32 → 4 ≤ length bs → x ≡ first bs
    → b ≡ ltb (length r.members) 32 → s ≡ cond b (with_member r x) r → with_members_in s (others bs) ≡ with_members_in r bs
row_members_more r s b x bs few h q e f =
    let ys = members_in (others bs) in
    let whole : x ∷ ys ≡ members_in bs = ap (λ (y : Member). y ∷ ys) q ∙ sym (members_more bs h) in
    let d : take 32 (pushed 32 r.members x ++ ys) ≡ take 32 (r.members ++ members_in bs) = push_on 32 r.members x ys few ∙ ap (λ (l : List Member). take 32 (r.members ++ l)) whole in
    ap (λ (t : RowData). with_members_in t (others bs)) (f ∙ ap (λ t. cond t (with_member r x) r) e ∙ inside (ltb (length r.members) 32))
    ∙ (λ j. record { letter = r.letter; body = r.body; members = d j })
  where
    inside : (t : Bool) → cond t (with_member r x) r ≡ record { letter = r.letter; body = r.body; members = cond t (r.members ++ (x ∷ [])) r.members }
    inside true = refl
    inside false = refl

pub row_members_end : (r : RowData) (bs : List ℕ) → length r.members ≤ 32 → length bs < 4 → with_members_in r bs ≡ r
row_members_end r bs few h =
    let d : take 32 (r.members ++ members_in bs) ≡ r.members = ap (λ (l : List Member). take 32 (r.members ++ l)) (members_end bs h) ∙ push_end 32 r.members few in
    λ j. record { letter = r.letter; body = r.body; members = d j }

-- ---- the tests of the layout

-- a test that did not end in its fault
pub checked_passed : {A : Type 0} (b : Bool) (f : RowRefusal) (next : Result A RowRefusal) (x : A) → Ok x ≡ checked b f next → (b ≡ true) × (Ok x ≡ next)
checked_passed true f next x e = (refl, e)
checked_passed false f next x e = (cc, cc)

-- after the first three tests the fourth decides
pub layout_marks : {A : Type 0} (m : Meaning) (bs : List ℕ) (next : Result A RowRefusal) (b : Bool)
    → lettered m bs ≡ true → counted bs ≡ true → right_length m bs ≡ true → marked (drop (head_length m bs) bs) ≡ b → layout m bs next ≡ checked b UnmarkedMember next
layout_marks m bs next b x y z w =
    ap (λ t. checked t UnknownLetter (checked (counted bs) BadCount (checked (right_length m bs) WrongLength (checked (marked (drop (head_length m bs) bs)) UnmarkedMember next)))) x
    ∙ ap (λ t. checked t BadCount (checked (right_length m bs) WrongLength (checked (marked (drop (head_length m bs) bs)) UnmarkedMember next))) y
    ∙ ap (λ t. checked t WrongLength (checked (marked (drop (head_length m bs) bs)) UnmarkedMember next)) z
    ∙ ap (λ t. checked t UnmarkedMember next) w

-- the same, by what the code has read: the body length x and the count n
pub start_marks : {A : Type 0} (m : Meaning) (bs : List ℕ) (next : Result A RowRefusal) (x n : ℕ) (b : Bool)
    → Ok x ≡ checked (lettered m bs) UnknownLetter (Ok (m.body_length (letter_byte bs))) → Ok n ≡ checked (counted bs) BadCount (Ok (count_byte bs))
    → length bs ≡ 1 + x + 4 * n → b ≡ marked (take (length bs - (1 + x)) (drop (1 + x) bs))
    → (layout m bs next ≡ checked b UnmarkedMember next) × (1 + x ≡ head_length m bs)
start_marks m bs next x n b p q l k =
    let u = checked_passed (lettered m bs) UnknownLetter (Ok (m.body_length (letter_byte bs))) x p in
    let v = checked_passed (counted bs) BadCount (Ok (count_byte bs)) n q in
    let f = u.1 in
    let g = v.1 in
    let e : x ≡ m.body_length (letter_byte bs) = cc in
    let d : n ≡ count_byte bs = cc in
    let s : 1 + x ≡ head_length m bs = omega arith in
    let w : marked (drop (head_length m bs) bs) ≡ b = ap (λ y. marked (drop y bs)) (sym s) ∙ ap marked (sym (take_rest bs (1 + x))) ∙ sym k in
    (layout_marks m bs next b u.0 v.0 (eq-eqb (length bs) (head_length m bs + 4 * count_byte bs) (omega arith)) w, s)

-- bytes that pass the tests have the layout
pub layout_passed : (m : Meaning) (bs : List ℕ) (x y : ℕ) → Ok x ≡ layout m bs (Ok y) → Layout m bs × (x ≡ y)
layout_passed m bs x y e =
    let a = checked_passed (lettered m bs) UnknownLetter (checked (counted bs) BadCount (checked (right_length m bs) WrongLength (checked (marked (drop (head_length m bs) bs)) UnmarkedMember (Ok y)))) x e in
    let b = checked_passed (counted bs) BadCount (checked (right_length m bs) WrongLength (checked (marked (drop (head_length m bs) bs)) UnmarkedMember (Ok y))) x a.1 in
    let c = checked_passed (right_length m bs) WrongLength (checked (marked (drop (head_length m bs) bs)) UnmarkedMember (Ok y)) x b.1 in
    let d = checked_passed (marked (drop (head_length m bs) bs)) UnmarkedMember (Ok y) x c.1 in
    let f = d.1 in
    (record { letters = a.0; counts = b.0; long = c.0; marks = d.0 }, cc)

-- the first fault is the same whatever comes next
without_value : Result ℕ RowRefusal → Result Unit RowRefusal
without_value (Ok x) = Ok tt
without_value (Err e) = Err e

faults_same : (a b c d : Bool) (y : ℕ)
    → without_value (checked a UnknownLetter (checked b BadCount (checked c WrongLength (checked d UnmarkedMember (Ok y)))))
    ≡ checked a UnknownLetter (checked b BadCount (checked c WrongLength (checked d UnmarkedMember (Ok tt))))
unfolding without_value
faults_same false b c d y = refl
faults_same true false c d y = refl
faults_same true true false d y = refl
faults_same true true true false y = refl
faults_same true true true true y = refl

pub layout_failed : (m : Meaning) (bs : List ℕ) (y : ℕ) (e : RowRefusal) → Err e ≡ layout m bs (Ok y) → layout_fault m bs ≡ Err e
unfolding without_value
layout_failed m bs y e h =
    sym (ap without_value h ∙ faults_same (lettered m bs) (counted bs) (right_length m bs) (marked (drop (head_length m bs) bs)) y)

-- what is left of a row that has a fault
pub row_unread : (m : Meaning) (bs : List ℕ) (y : ℕ) (e : RowRefusal) (before : RowData) → Err e ≡ layout m bs (Ok y) → before ≡ row_after m bs before
row_unread m bs y e before h = sym (ap (λ (r : Result Unit RowRefusal). cond (is_ok r) (decode m bs) before) (layout_failed m bs y e h))

-- what comes after a fault, and after none
abbrev faultless : Result Unit RowRefusal
faultless = Ok tt

after_fault : (a b c d : Bool) (next : Result Unit RowRefusal) (e : RowRefusal)
    → Err e ≡ checked a UnknownLetter (checked b BadCount (checked c WrongLength (checked d UnmarkedMember faultless)))
    → checked a UnknownLetter (checked b BadCount (checked c WrongLength (checked d UnmarkedMember next))) ≡ Err e
after_fault false b c d next e h = sym h
after_fault true false c d next e h = sym h
after_fault true true false d next e h = sym h
after_fault true true true false next e h = sym h
after_fault true true true true next e h = absurd (both_ways false refl (ap is_ok h))

after_none : (a b c d : Bool) (next : Result Unit RowRefusal)
    → faultless ≡ checked a UnknownLetter (checked b BadCount (checked c WrongLength (checked d UnmarkedMember faultless)))
    → checked a UnknownLetter (checked b BadCount (checked c WrongLength (checked d UnmarkedMember next))) ≡ next
after_none false b c d next h = absurd (both_ways true (ap is_ok h) refl)
after_none true false c d next h = absurd (both_ways true (ap is_ok h) refl)
after_none true true false d next h = absurd (both_ways true (ap is_ok h) refl)
after_none true true true false next h = absurd (both_ways true (ap is_ok h) refl)
after_none true true true true next h = refl

pub verdict_failed : (m : Meaning) (bs : List ℕ) (voices : ℕ) (e : RowRefusal) → Err e ≡ layout_fault m bs → row_verdict m bs voices ≡ Err e
verdict_failed m bs voices e h =
    after_fault (lettered m bs) (counted bs) (right_length m bs) (marked (drop (head_length m bs) bs)) (of_kind (m.accepts (decode m bs) voices)) e h

pub verdict_refused : (m : Meaning) (bs : List ℕ) (voices : ℕ) (f : KindRefusal) (row before : RowData)
    → Ok tt ≡ layout_fault m bs → row ≡ row_after m bs before → Err f ≡ m.accepts row voices → row_verdict m bs voices ≡ Err (ByKind f)
verdict_refused m bs voices f row before h r e =
    let is : row ≡ decode m bs = r ∙ sym (ap (λ (x : Result Unit RowRefusal). cond (is_ok x) (decode m bs) before) h) in
    after_none (lettered m bs) (counted bs) (right_length m bs) (marked (drop (head_length m bs) bs)) (of_kind (m.accepts (decode m bs) voices)) h
    ∙ sym (ap of_kind (e ∙ ap (λ (x : RowData). m.accepts x voices) is))

pub layout_right : (m : Meaning) (bs : List ℕ) → Layout m bs → layout_fault m bs ≡ Ok tt
layout_right m bs o = layout_marks m bs (Ok tt) true o.letters o.counts o.long o.marks

-- ---- the whole row

-- a row restarted and filled from these bytes, whose members begin at `start`
abbrev pub filled : List ℕ → ℕ → RowData
filled bs start = with_members_in (with_bytes (blank (letter_byte bs)) (take (start - 1) (drop 1 bs))) (take (length bs - start) (drop start bs))

pub row_filled : (m : Meaning) (bs : List ℕ) → Laws m → Layout m bs → filled bs (head_length m bs) ≡ decode m bs
row_filled m bs laws o =
    let l = letter_byte bs in
    let k = m.body_length l in
    let n = count_byte bs in
    let short = (laws.lettered l (and_parts (ltb 0 (length bs)) (m.known l) o.letters).1).short_body in
    let most = leb-true n 32 (and_parts (leb 1 n) (leb n 32) (and_parts (ltb 1 (length bs)) (leb 1 n && leb n 32) o.counts).1).1 in
    let long = eqb-true (length bs) (head_length m bs + 4 * n) o.long in
    let part : take (suc k - 1) (drop 1 bs) ≡ take k (drop 1 bs) = ap (λ x. take x (drop 1 bs)) (omega arith) in
    let body : take 16 (take (suc k - 1) (drop 1 bs)) ≡ take k (drop 1 bs) = ap (take 16) part ∙ take_all 16 (take k (drop 1 bs)) (omega (arith, length-take k (drop 1 bs))) in
    let rest = take_rest bs (suc k) in
    let few : length (members_in (drop (suc k) bs)) ≤ 32 = members_few (drop (suc k) bs) 32 (omega (arith, length-drop (suc k) bs)) in
    let members : take 32 (members_in (take (length bs - suc k) (drop (suc k) bs))) ≡ members_in (drop (suc k) bs) = ap (λ (x : List ℕ). take 32 (members_in x)) rest ∙ take_all 32 (members_in (drop (suc k) bs)) few in
    λ j. record { letter = l; body = body j; members = members j }

-- and so the row, restarted as u, with its body as v and with its members as w
pub row_read : (m : Meaning) (bs : List ℕ) (start : ℕ) (before u v w : RowData) → Laws m → Layout m bs → start ≡ head_length m bs
    → u ≡ blank (letter_byte bs) → v ≡ with_bytes u (take (start - 1) (drop 1 bs)) → w ≡ with_members_in v (take (length bs - start) (drop start bs))
    → w ≡ row_after m bs before
row_read m bs start before u v w laws o s p q r =
    let rest : List ℕ = take (length bs - start) (drop start bs) in
    let body : List ℕ = take (start - 1) (drop 1 bs) in
    r ∙ ap (λ (x : RowData). with_members_in x rest) (q ∙ ap (λ (x : RowData). with_bytes x body) p)
    ∙ ap (filled bs) s ∙ row_filled m bs laws o
    ∙ sym (ap (λ (x : Result Unit RowRefusal). cond (is_ok x) (decode m bs) before) (layout_right m bs o))
