-- What the answers of a history say, and when two results are equal.
use Rattle.std.proofs.Common.{◌≡◌, ℕ, ◌+◌, ◌-◌, ◌<◌, ◌≤◌, true, false, ◌↔◌, List, [], ◌∷◌, ◌++◌, length, get_or, take, drop, sym, refl, ap, ◌∙◌, subst, ap₂, subst₂, inl, inr, arith}
use Rattle.std.proofs.lemmas.Bool.{both_ways, cases_order, cases_lt, ltb-false}
use Rattle.std.proofs.lemmas.List.{length-append, length-drop, take_at, drop_at, get_or-drop, get_or_append_left, get_or-append_right}
use Rattle.sets.specs.Placings.{Proper, Within, Lesser}
use Rattle.rows.specs.Rows.{RowData, Meaning}
use Rattle.rows.specs.Laws.{Laws}
use Rattle.rows.specs.Bytes.{Bytes, decode}
use Rattle.stores.specs.Stores.{View}
use Rattle.search.proofs.AnyStore.{any}
use Rattle.search.specs.Search.{Status, Steps}
use Rattle.rows.specs.Reasons.{Judgement}
use Rattle.search.specs.Calls.{TableData, Call, Answer, Formed, reasons, judged, over, status_answer, result, OpensNodes, SolveRun, Does}
use Rattle.search.specs.Histories.{History, keys_lost, declared_voices, posted_rows}
use Rattle.rows.specs.Placed.{Least, Lawless, SameLeast}
use Rattle.search.specs.Results.{Invariant, Reads, SolveMeans, finished, Budgeted}
use Rattle.search.specs.Calls.Call.{declare, post, solve, read, wipe}
use Rattle.search.proofs.HistoryFacts.{not_both, none_fits, fit, invariant_holds}
use Rattle.search.proofs.SetParts.{under}

-- ---- Solve and its budget

pub steps_not_over : {m : Meaning} {voices : List ℕ} {rows : List RowData} {p : Status} {v : View} {q : Status} {w : View} {n k : ℕ} → Steps any m voices rows p v q w n k → over p ≡ false
steps_not_over (Steps.opens_root v w p n k O) = refl
steps_not_over (Steps.opens_child l ls v w p n k O) = refl

-- what a Solve leaves alone, and what it counts
pub record Unaltered (n : ℕ) (t u : TableData) : Type 0 where
  pub voices : u.voices ≡ t.voices
  pub rows : u.rows ≡ t.rows
  pub opened : u.opened ≡ t.opened + n

pub goes_kept : {m : Meaning} {n : ℕ} {t : TableData} {v : View} {u : TableData} {w : View} {k : ℕ} → OpensNodes any m n t v u w k → Unaltered n t u
goes_kept (OpensNodes.stay t v) = record { voices = refl; rows = refl; opened = omega arith }
goes_kept (OpensNodes.more b t u v w x p n k j S G) = let r = goes_kept G in record { voices = r.voices; rows = r.rows; opened = omega (arith, r.opened) }

goes_over : {m : Meaning} {n : ℕ} {t : TableData} {v : View} {u : TableData} {w : View} {k : ℕ} → OpensNodes any m n t v u w k → over t.status ≡ true → (u ≡ t) × (w ≡ v)
goes_over (OpensNodes.stay t v) o = (refl, refl)
goes_over (OpensNodes.more b t u v w x p n k j S G) o = absurd (both_ways (over t.status) (steps_not_over S) o)

abbrev Stops : Answer → Type 0
Stops Answer.done = ⊥
Stops (Answer.refused n) = ⊥
Stops (Answer.found p) = ⊥
Stops Answer.none = ⊥
Stops Answer.stopped = Unit {0}
Stops (Answer.wrote n b) = ⊥

stops_open : (x : Status) → status_answer x ≡ Answer.stopped → over x ≡ false
stops_open Status.fresh e = refl
stops_open (Status.going l ls) e = refl
stops_open (Status.satisfied p) e = absurd (subst Stops (sym e) tt)
stops_open Status.unsatisfiable e = absurd (subst Stops (sym e) tt)

open_stops : (x : Status) → over x ≡ false → status_answer x ≡ Answer.stopped
open_stops Status.fresh e = refl
open_stops (Status.going l ls) e = refl
open_stops (Status.satisfied p) e = absurd (both_ways true e refl)
open_stops Status.unsatisfiable e = absurd (both_ways true e refl)

solved : (m : Meaning) (t : TableData) (v : View) (b : ℕ) (u : TableData) (w : View) (k : ℕ) → SolveRun any m b t v u w k → Budgeted t b (status_answer u.status) u
solved m t v b u w lost S =
    let k = goes_kept S.goes in
    record {
      at_least = omega (arith, k.opened);
      at_most = omega (arith, k.opened, S.inside);
      stopped_exactly = (
        (λ e.
            let o = stops_open u.status e in
            (elim S.ends [ inl c ↦ absurd (both_ways (over u.status) o c) | inr c ↦ omega (arith, k.opened, c) ], o)),
        (λ e. open_stops u.status e.1),
      );
      answer = refl;
      same_voices = k.voices;
      same_rows = k.rows;
      repeats = λ o. (goes_over S.goes o).0;
    }

pub solve_keeps_budget : (m : Meaning) (t : TableData) (v : View) (b : ℕ) (a : Answer) (u : TableData) (w : View)
    → judged m t (solve b) ≡ Judgement.passes → Does any m t v (solve b) a u w → Budgeted t b a u
solve_keeps_budget m t v b a u w j (Does.refuses c n d) = absurd (not_both d j)
solve_keeps_budget m t v b a u w j (Does.solves b' u' w' k _ S) = solved m t v b u w k S

-- ---- the voices and rows of a history

refused_voices : (m : Meaning) (t : TableData) (h : List (Call × Answer)) (c : Call) (n : ℕ) → judged m t c ≡ Judgement.refused_under n → declared_voices ((c, Answer.refused n) ∷ h) ≡ declared_voices h
refused_voices m t h (declare s) n j = refl
refused_voices m t h (post bs) n j = refl
refused_voices m t h (solve b) n j = refl
refused_voices m t h (read b) n j = refl
refused_voices m t h wipe n j = absurd (not_both j refl)

refused_rows : (m : Meaning) (t : TableData) (h : List (Call × Answer)) (c : Call) (n : ℕ) → judged m t c ≡ Judgement.refused_under n → posted_rows m ((c, Answer.refused n) ∷ h) ≡ posted_rows m h
refused_rows m t h (declare s) n j = refl
refused_rows m t h (post bs) n j = refl
refused_rows m t h (solve b) n j = refl
refused_rows m t h (read b) n j = refl
refused_rows m t h wipe n j = absurd (not_both j refl)

-- they are the table's
abbrev Given : Meaning → List (Call × Answer) → TableData → Type 0
Given m h t = (declared_voices h ≡ t.voices) × (posted_rows m h ≡ t.rows)

given_after : {m : Meaning} {t : TableData} {v : View} {c : Call} {a : Answer} {u : TableData} {w : View} (h : List (Call × Answer)) → Does any m t v c a u w → Given m h t → Given m ((c, a) ∷ h) u
given_after {m} {t} h (Does.refuses c n j) g = (refused_voices m t h c n j ∙ g.0, refused_rows m t h c n j ∙ g.1)
given_after h (Does.declares s w j e) g = (ap (λ (x : List ℕ). x ++ (s ∷ [])) g.0, g.1)
given_after {m} h (Does.posts bs w j e) g = (g.0, ap (λ (x : List RowData). x ++ (decode m bs ∷ [])) g.1)
given_after h (Does.wipes w e) g = (refl, refl)
given_after h (Does.solves b u w k j S) g = let k = goes_kept S.goes in (g.0 ∙ sym k.voices, g.1 ∙ sym k.rows)
given_after h (Does.reads buffer p j e) g = g

given : {m : Meaning} {g : View} {h : List (Call × Answer)} {t : TableData} {v : View} → History any m g h t v → Given m h t
given (History.made v e) = (refl, refl)
given (History.then h t u v w c a H o d) = given_after h d (given H)

-- ---- answers

-- the last call of a history
abbrev Last : Meaning → View → List (Call × Answer) → TableData → View → Type 0
Last m g [] u w = Unit {0}
Last m g (x ∷ h) u w = (t : TableData) × (v : View) × History any m g h t v × Does any m t v x.0 x.1 u w × Formed x.0

last : {m : Meaning} {h : List (Call × Answer)} {t : TableData} {v : View} → {g : View} → History any m g h t v → Last m g h t v
last (History.made v e) = tt
last (History.then h t u v w c a H o d) = (t, v, H, d, o)

says_of : (m : Meaning) (lost : ℕ) (t : TableData) (v : View) → Invariant m lost t v → (x : Status) → t.status ≡ x → SolveMeans m t.voices t.rows (status_answer x)
says_of m lost t v s Status.fresh e = tt
says_of m lost t v s (Status.going l ls) e = tt
says_of m lost t v s (Status.satisfied p) e = s.found_least p e
says_of m lost t v s Status.unsatisfiable e = s.none_lawful e

says_after : (m : Meaning) (lost : ℕ) (t : TableData) (v : View) (b : ℕ) (a : Answer) (u : TableData) (w : View) → Does any m t v (solve b) a u w → Invariant m lost u w
    → SolveMeans m u.voices u.rows a
says_after m lost t v b a u w (Does.refuses c n d) s = tt
says_after m lost t v b a u w (Does.solves b' u' w' k _ S) s = says_of m lost u w s u.status refl

answer_holds : (m : Meaning) → Laws m → (h : List (Call × Answer)) (b : ℕ) (a : Answer) (t : TableData) (v : View)
    → {g : View} → History any m g ((solve b, a) ∷ h) t v → SolveMeans m (declared_voices h) (posted_rows m h) a
answer_holds m L h b a t v H =
    let g = given H in
    let (x, y, _, d, _) = last H in
    subst₂ (λ (vs : List ℕ) (rs : List RowData). SolveMeans m vs rs a) (sym g.0) (sym g.1) (says_after m (keys_lost H) x y b a t v d (invariant_holds m L ((solve b, a) ∷ h) t v H))

pub answers_hold : (m : Meaning) → Laws m → (later before : List (Call × Answer)) (b : ℕ) (a : Answer) (t : TableData) (v : View)
    → {g : View} → History any m g (later ++ ((solve b, a) ∷ before)) t v → SolveMeans m (declared_voices before) (posted_rows m before) a
answers_hold m L [] before b a t v H = answer_holds m L before b a t v H
answers_hold m L (x ∷ later) before b a t v H = let (t', v', G, _, _) = last H in answers_hold m L later before b a t' v' G

pub tables_given : (m : Meaning) (h : List (Call × Answer)) (t : TableData) (v : View) → {g : View} → History any m g h t v → (t.voices ≡ declared_voices h) × (t.rows ≡ posted_rows m h)
tables_given m h t v H = let g = given H in (sym g.0, sym g.1)

-- ---- the values that Read wrote

value_bytes : (p voices : List ℕ) → Proper voices → Within p voices → Bytes p
value_bytes p voices pr w i l =
    let h : i < length voices = omega (arith, w.long) in
    omega (arith, under (get_or voices i 0) (get_or p i 0) (pr i h).1 (w.each i h))

bytes_beyond : (p buffer : List ℕ) → length p ≤ length buffer → Bytes p → Bytes buffer → Bytes (p ++ drop (length p) buffer)
bytes_beyond p buffer k a b i l =
    elim (cases_lt i (length p)) [
      | inl h ↦ subst (λ (x : ℕ). x < 256) (sym (get_or_append_left p (drop (length p) buffer) 0 i h)) (a i h)
      | inr h ↦
          subst (λ (x : ℕ). x < 256) (sym (get_or-append_right p (drop (length p) buffer) (length p) i 0 refl h ∙ get_or-drop (length p) buffer (i - length p) 0))
          (b (length p + (i - length p)) (omega (arith, length-append p (drop (length p) buffer), length-drop (length p) buffer)))
    ]

-- what a Read that wrote was given and answered
abbrev Wrote : Meaning → TableData → View → List ℕ → Answer → Type 0
Wrote m t v buffer Answer.done = Unit {0}
Wrote m t v buffer (Answer.refused n) = Unit {0}
Wrote m t v buffer (Answer.found p) = Unit {0}
Wrote m t v buffer Answer.none = Unit {0}
Wrote m t v buffer Answer.stopped = Unit {0}
Wrote m t v buffer (Answer.wrote n b) = (p : List ℕ) × (t.status ≡ Status.satisfied p) × (length p ≤ length buffer) × (n ≡ length p) × (b ≡ p ++ drop (length p) buffer)

wrote : (m : Meaning) (t : TableData) (v : View) (buffer : List ℕ) (a : Answer) (u : TableData) (w : View) → Does any m t v (read buffer) a u w → Wrote m t v buffer a × (u ≡ t)
wrote m t v buffer a u w (Does.refuses c n d) = (tt, refl)
wrote m t v buffer a u w (Does.reads b p j e) =
    let f = ltb-false (length buffer) (length (result t.status)) (none_fits (reasons m t (read buffer)) j).1.0 in
    ((p, e, subst (λ (x : Status). length (result x) ≤ length buffer) e f, refl, refl), refl)

read_holds : (m : Meaning) → Laws m → (h : List (Call × Answer)) (buffer : List ℕ) (n : ℕ) (b : List ℕ) (t : TableData) (v : View)
    → {g : View} → History any m g ((read buffer, Answer.wrote n b) ∷ h) t v → Reads m (declared_voices h) (posted_rows m h) buffer n b
read_holds m L h buffer n b t v H =
    let g = given H in
    let (x, y, G, d, fo) = last H in
    let r = wrote m x y buffer (Answer.wrote n b) t v d in
    let (p, e, k, en, eb) = r.0 in
    let s = invariant_holds m L h x y G in
    let f = fit m L G in
    let le : Least m x.voices x.rows p = s.found_least p e in
    let tk : take n b ≡ p = ap₂ (λ (i : ℕ) (z : List ℕ). take i z) en eb ∙ take_at p (drop (length p) buffer) (length p) refl in
    let dr : drop n b ≡ drop n buffer = ap₂ (λ (i : ℕ) (z : List ℕ). drop i z) en eb ∙ drop_at p (drop (length p) buffer) (length p) refl ∙ ap (λ (i : ℕ). drop i buffer) (sym en) in
    let gx = given G in
    subst₂ (λ (vs : List ℕ) (rs : List RowData). Reads m vs rs buffer n b) (sym gx.0) (sym gx.1)
    (record {
      many = en ∙ le.lawful.within.long;
      least = subst (Least m x.voices x.rows) (sym tk) le;
      beyond = dr;
      long = ap length eb ∙ omega (arith, k, length-append p (drop (length p) buffer), length-drop (length p) buffer);
      bytes = subst Bytes (sym eb) (bytes_beyond p buffer k (value_bytes p x.voices f.proper le.lawful.within) fo);
    })

pub reads_hold : (m : Meaning) → Laws m → (later before : List (Call × Answer)) (buffer : List ℕ) (n : ℕ) (b : List ℕ) (t : TableData) (v : View)
    → {g : View} → History any m g (later ++ ((read buffer, Answer.wrote n b) ∷ before)) t v → Reads m (declared_voices before) (posted_rows m before) buffer n b
reads_hold m L [] before buffer n b t v H = read_holds m L before buffer n b t v H
reads_hold m L (x ∷ later) before buffer n b t v H = let (t', v', G, _, _) = last H in reads_hold m L later before buffer n b t' v' G

-- ---- equal results

lesser_one_way : (p q : List ℕ) → Lesser p q → Lesser q p → ⊥
lesser_one_way p q a b =
    elim (cases_order a.at b.at) [
      | inl e ↦ omega (arith, a.less, b.less, ap (λ (i : ℕ). get_or p i 0) e, ap (λ (i : ℕ). get_or q i 0) e)
      | inr h ↦ elim h [
        | inl l ↦ omega (arith, a.less, b.before a.at l)
        | inr l ↦ omega (arith, b.less, a.before b.at l)
      ]
    ]

least_one : (m : Meaning) (voices : List ℕ) (rows : List RowData) (p q : List ℕ) → Least m voices rows p → Least m voices rows q → p ≡ q
least_one m voices rows p q a b =
    elim (a.least q b.lawful) [
      | inl e ↦ sym e
      | inr l ↦ elim (b.least p a.lawful) [ inl e ↦ e | inr k ↦ absurd (lesser_one_way p q l k) ]
    ]

module _ (m m' : Meaning) (vs vs' : List ℕ) (rs rs' : List RowData) where
  same_from : (a : Answer) → finished a ≡ true → SolveMeans m vs rs a → SolveMeans m' vs' rs' a → SameLeast m vs rs m' vs' rs'
  same_from Answer.done f x y = absurd x
  same_from (Answer.refused n) f x y = absurd (both_ways false refl f)
  same_from (Answer.found p) f x y = inl (p, x, y)
  same_from Answer.none f x y = inr (x, y)
  same_from Answer.stopped f x y = absurd (both_ways false refl f)
  same_from (Answer.wrote n b) f x y = absurd x

-- an answer that is a result, by what the table has
result_found : (m : Meaning) (vs : List ℕ) (rs : List RowData) (a : Answer) (p : List ℕ) → finished a ≡ true → SolveMeans m vs rs a → Least m vs rs p → a ≡ Answer.found p
result_found m vs rs Answer.done p f x l = absurd x
result_found m vs rs (Answer.refused n) p f x l = absurd (both_ways false refl f)
result_found m vs rs (Answer.found q) p f x l = ap Answer.found (least_one m vs rs q p x l)
result_found m vs rs Answer.none p f x l = absurd (x p l.lawful)
result_found m vs rs Answer.stopped p f x l = absurd (both_ways false refl f)
result_found m vs rs (Answer.wrote n b) p f x l = absurd x

result_none : (m : Meaning) (vs : List ℕ) (rs : List RowData) (a : Answer) → finished a ≡ true → SolveMeans m vs rs a → Lawless m vs rs → a ≡ Answer.none
result_none m vs rs Answer.done f x l = absurd x
result_none m vs rs (Answer.refused n) f x l = absurd (both_ways false refl f)
result_none m vs rs (Answer.found q) f x l = absurd (l q x.lawful)
result_none m vs rs Answer.none f x l = refl
result_none m vs rs Answer.stopped f x l = absurd (both_ways false refl f)
result_none m vs rs (Answer.wrote n b) f x l = absurd x

pub results_agree : (m m' : Meaning) → Laws m → Laws m' → (later later' h h' : List (Call × Answer)) (b b' : ℕ) (a a' : Answer) (t t' : TableData) (v v' : View)
    → {g : View} → History any m g (later ++ ((solve b, a) ∷ h)) t v → {g' : View} → History any m' g' (later' ++ ((solve b', a') ∷ h')) t' v' → finished a ≡ true → finished a' ≡ true
    → (a ≡ a') ↔ SameLeast m (declared_voices h) (posted_rows m h) m' (declared_voices h') (posted_rows m' h')
results_agree m m' L L' later later' h h' b b' a a' t t' v v' H H' f f' =
    let x = answers_hold m L later h b a t v H in
    let y = answers_hold m' L' later' h' b' a' t' v' H' in (
      (λ e. same_from m m' (declared_voices h) (declared_voices h') (posted_rows m h) (posted_rows m' h') a f x (subst (SolveMeans m' (declared_voices h') (posted_rows m' h')) (sym e) y)),
      (λ s. elim s [
        | inl k ↦ result_found m (declared_voices h) (posted_rows m h) a k.0 f x k.1 ∙ sym (result_found m' (declared_voices h') (posted_rows m' h') a' k.0 f' y k.2)
        | inr k ↦ result_none m (declared_voices h) (posted_rows m h) a f x k.0 ∙ sym (result_none m' (declared_voices h') (posted_rows m' h') a' f' y k.1)
      ]),
    )
