-- A history of calls, one call longer, and up to each of its calls.
use mathlib.Core.List.{reverse_aux}
use Rattle.std.proofs.Common.{◌≡◌, ℕ, zero, suc, ◌+◌, ◌<◌, ◌≤◌, List, [], ◌∷◌, ◌++◌, length, get_or, take, reverse, sym, refl, ap, ◌∙◌, subst, subst₂, ap₂, inl, inr, arith}
use Rattle.std.proofs.lemmas.Bool.{cases_lt}
use Rattle.std.proofs.lemmas.List.{take_more, take_all, length-map, length-take-le, get_or_past, map_more, map_push, reverse-append}
use Rattle.rows.specs.Rows.{Meaning}
use Rattle.rows.specs.Laws.{Laws}
use Rattle.stores.specs.Behaviours.{Behaviour}
use Rattle.search.specs.Calls.{TableData, Call, Answer, Formed, Does}
use Rattle.search.specs.Calls.Call.{solve, wipe}
use Rattle.search.specs.Calls.Answer.{done}
use Rattle.search.specs.Histories.{History}
use Rattle.search.proofs.OverEvery.{invariant_holds, results_agree}
use Rattle.table.specs.CallLaws.{ExtendsHistories, AnswerMeans}
use Rattle.table.proofs.Calling.{extends_by}
use Rattle.histories.specs.declared.call.TableCall.{TableCall}
use Rattle.histories.specs.declared.reply.Reply.{Reply}
use Rattle.histories.specs.declared.reply.Progress.{Progress}
use Rattle.histories.specs.CallViews.{call_of, answer_of, calls_of, answers_of, progresses_of, progress_of}
use Rattle.histories.specs.Replies.{paired_onto, paired, first_paired, progress_after, Reached, Played, Agreed}

-- ---- one call more

paired_push : (h : List (Call × Answer)) (calls : List Call) (answers : List Answer) (c : Call) (a : Answer) → length answers ≡ length calls
    → paired_onto h (calls ++ (c ∷ [])) (answers ++ (a ∷ [])) ≡ (c, a) ∷ paired_onto h calls answers
paired_push h [] [] c a e = refl
paired_push h [] (b ∷ answers) c a e = absurd (omega (arith, e))
paired_push h (d ∷ calls) [] c a e = absurd (omega (arith, e))
paired_push h (d ∷ calls) (b ∷ answers) c a e = paired_push ((d, b) ∷ h) calls answers c a (omega (arith, e))

module _ (b : Behaviour) (m : Meaning) (g : b.State) where
  -- a history with the progress of the search after each call, newest first
  abbrev pub Counted : List (Call × Answer) → List Progress → TableData → b.State → Type 0
  Counted h ks t s = (H : History b m g h t s) × (progress_after H ≡ ks)

  pub none_counted : {t : TableData} {s : b.State} (H : History b m g [] t s) → progress_after H ≡ []
  none_counted (History.made s e) = refl

  formed_of : {h : List (Call × Answer)} {t : TableData} {s : b.State} (c : Call) (a : Answer) → History b m g ((c, a) ∷ h) t s → Formed c
  formed_of c a (History.then h t u s r c' a' H f d) = f

  pub counted_then : {h : List (Call × Answer)} {ks : List Progress} (t u : TableData) (s r : b.State) (c : Call) (a : Answer) → ExtendsHistories b m t s c a u r
      → Does b m t s c a u r → Counted h ks t s → Counted ((c, a) ∷ h) (progress_of u ∷ ks) u r
  counted_then {h} {ks} t u s r c a l d (H, e) =
      (History.then h t u s r c a H (formed_of c a (l.history g h H)) d, ap (λ (x : List Progress). progress_of u ∷ x) e)

  paired_more : {t : TableData} {s : b.State} {ks ks' : List Progress} (calls calls' : List Call) (answers answers' : List Answer) (c : Call) (a : Answer) → length answers ≡ length calls
      → calls' ≡ calls ++ (c ∷ []) → answers' ≡ answers ++ (a ∷ []) → ks' ≡ ks → Counted ((c, a) ∷ paired calls answers) ks t s → Counted (paired calls' answers') ks' t s
  paired_more {t} {s} calls calls' answers answers' c a e f k n H =
      subst₂ (λ (h : List (Call × Answer)) (x : List Progress). Counted h x t s) (sym (ap₂ paired f k ∙ paired_push [] calls answers c a e)) (sym n) H

  -- the same of the code's calls and replies
  pub one_more : {t : TableData} {s : b.State} (xs : List TableCall) (ys ys' : List Reply) (i : ℕ) (x : TableCall) (y : Reply) → i < length xs → length ys ≡ i → x ≡ get_or xs i x
      → ys' ≡ ys ++ (y ∷ []) → Counted ((call_of x, answer_of y.answer) ∷ paired (calls_of (take i xs)) (answers_of ys)) (y.progress ∷ reverse (progresses_of ys)) t s
      → Counted (paired (calls_of (take (i + 1) xs)) (answers_of ys')) (reverse (progresses_of ys')) t s
  one_more xs ys ys' i x y h e is f H =
      paired_more (calls_of (take i xs)) (calls_of (take (i + 1) xs)) (answers_of ys) (answers_of ys') (call_of x) (answer_of y.answer)
      (length-map ys (λ (r : Reply). answer_of r.answer) ∙ e ∙ sym (length-map (take i xs) call_of ∙ length-take-le i xs (omega arith)))
      (map_more call_of xs i x h ∙ ap (λ (z : TableCall). calls_of (take i xs) ++ (call_of z ∷ [])) (sym is)) (ap answers_of f ∙ map_push (λ (r : Reply). answer_of r.answer) ys y)
      (ap (λ (z : List Reply). reverse (progresses_of z)) f ∙ ap reverse (map_push (λ (r : Reply). r.progress) ys y) ∙ reverse-append (progresses_of ys) (y.progress ∷ [])) H

first_next : (calls : List Call) (answers : List Answer) (n : ℕ) → length answers ≡ length calls → n < length calls
    → first_paired (n + 1) calls answers ≡ (get_or calls n wipe, get_or answers n done) ∷ first_paired n calls answers
first_next calls answers n e h =
    ap₂ paired (take_more calls n wipe h) (take_more answers n done (omega (arith, e)))
    ∙ paired_push [] (take n calls) (take n answers) (get_or calls n wipe) (get_or answers n done)
    (length-take-le n answers (omega (arith, e)) ∙ sym (length-take-le n calls (omega arith)))

solve_inside : (calls : List Call) (n b : ℕ) → get_or calls n wipe ≡ solve b → n < length calls
solve_inside calls n b e =
    elim (cases_lt n (length calls)) [
      | inl h ↦ h
      | inr h ↦ let z : ◌≡◌ {A = ℕ} 0 1 = let p : get_or calls n wipe ≡ wipe = get_or_past calls n wipe h in cc in absurd (omega arith)
    ]

-- ---- the first calls of a history

module _ (b : Behaviour) (m : Meaning) (L : Laws m) (g : b.State) where
  -- some table and state that a history led to
  abbrev ReachedSome : List (Call × Answer) → List Progress → Type 0
  ReachedSome h ks = (t : TableData) × (s : b.State) × Counted b m g h ks t s

  without : {c : Call} {a : Answer} {h : List (Call × Answer)} {k : Progress} {ks : List Progress} {t : TableData} {s : b.State} → Counted b m g ((c, a) ∷ h) (k ∷ ks) t s → ReachedSome h ks
  without {ks = ks} (History.then h t u s r c a H f d, e) = let q : progress_after H ≡ ks = cc in (t, s, (H, q))

  peeled : (h : List (Call × Answer)) (ks : List Progress) (calls : List Call) (answers : List Answer) (shown : List Progress) → length answers ≡ length calls → length shown ≡ length calls
      → ReachedSome (paired_onto h calls answers) (reverse_aux shown ks) → ReachedSome h ks
  peeled h ks [] answers [] e f r = r
  peeled h ks [] answers (k ∷ shown) e f r = absurd (omega (arith, f))
  peeled h ks (c ∷ calls) [] shown e f r = absurd (omega (arith, e))
  peeled h ks (c ∷ calls) (a ∷ answers) [] e f r = absurd (omega (arith, f))
  peeled h ks (c ∷ calls) (a ∷ answers) (k ∷ shown) e f r = let (t, s, H) = peeled ((c, a) ∷ h) (k ∷ ks) calls answers shown (omega (arith, e)) (omega (arith, f)) r in without H

  reached_at : (n : ℕ) (h : List (Call × Answer)) (ks : List Progress) (calls : List Call) (answers : List Answer) (shown : List Progress) → length answers ≡ length calls
      → length shown ≡ length calls → ReachedSome (paired_onto h calls answers) (reverse_aux shown ks) → ReachedSome (paired_onto h (take n calls) (take n answers)) (reverse_aux (take n shown) ks)
  reached_at zero h ks calls answers shown e f r = peeled h ks calls answers shown e f r
  reached_at (suc n) h ks [] answers [] e f r = r
  reached_at (suc n) h ks [] answers (k ∷ shown) e f r = absurd (omega (arith, f))
  reached_at (suc n) h ks (c ∷ calls) [] shown e f r = absurd (omega (arith, e))
  reached_at (suc n) h ks (c ∷ calls) (a ∷ answers) [] e f r = absurd (omega (arith, f))
  reached_at (suc n) h ks (c ∷ calls) (a ∷ answers) (k ∷ shown) e f r = reached_at n ((c, a) ∷ h) (k ∷ ks) calls answers shown (omega (arith, e)) (omega (arith, f)) r

  -- ---- what holds of them

  reached_by : (h : List (Call × Answer)) (shown : List Progress) → ReachedSome h (reverse shown) → Reached b m g h shown
  reached_by h shown (t, s, (H, e)) = record { table = t; state = s; history = H; counted = e; invariant = invariant_holds b m L g h t s H }

  means_by : {c : Call} {a : Answer} {h : List (Call × Answer)} {t : TableData} {s : b.State} → History b m g ((c, a) ∷ h) t s → AnswerMeans m h c a
  means_by (History.then h t u s r c a H f d) =
      (extends_by b m L t s c a u r f d).means g h H

  pub at_next : (calls : List Call) (answers : List Answer) (shown : List Progress) (n : ℕ) → length answers ≡ length calls → length shown ≡ length calls → n < length calls
      → ReachedSome (paired calls answers) (reverse shown) → ReachedSome ((get_or calls n wipe, get_or answers n done) ∷ first_paired n calls answers) (reverse (take (n + 1) shown))
  at_next calls answers shown n e f h r =
      subst (λ (x : List (Call × Answer)). ReachedSome x (reverse (take (n + 1) shown))) (first_next calls answers n e h) (reached_at (n + 1) [] [] calls answers shown e f r)

  played_by : (calls : List Call) (answers : List Answer) (shown : List Progress) → length answers ≡ length calls → length shown ≡ length calls → ReachedSome (paired calls answers) (reverse shown)
      → Played b m g calls answers shown
  played_by calls answers shown e f r = record {
    answered = e;
    progressed = f;
    reached = reached_by (paired calls answers) shown r;
    each_reached = λ n. reached_by (first_paired n calls answers) (take n shown) (reached_at n [] [] calls answers shown e f r);
    means = λ n h. let (x, y, (G, q)) = at_next calls answers shown n e f h r in means_by G;
  }

  pub all_played : (xs : List TableCall) (ys : List Reply) (i : ℕ) (t : TableData) (s : b.State) → length xs ≤ i → i ≤ length xs → length ys ≡ i
      → Counted b m g (paired (calls_of (take i xs)) (answers_of ys)) (reverse (progresses_of ys)) t s → Played b m g (calls_of xs) (answers_of ys) (progresses_of ys)
  all_played xs ys i t s h k e H =
      let n : length (calls_of xs) ≡ length ys = length-map xs call_of ∙ omega (arith, e, h, k) in
      played_by (calls_of xs) (answers_of ys) (progresses_of ys) (length-map ys (λ (r : Reply). answer_of r.answer) ∙ sym n) (length-map ys (λ (r : Reply). r.progress) ∙ sym n)
      (t, s, subst (λ (z : List TableCall). Counted b m g (paired (calls_of z) (answers_of ys)) (reverse (progresses_of ys)) t s) (take_all i xs h) H)

  -- up to a Solve
  pub up_to : (calls : List Call) (answers : List Answer) (shown : List Progress) (n k : ℕ) → Played b m g calls answers shown → get_or calls n wipe ≡ solve k
      → ReachedSome ((solve k, get_or answers n done) ∷ first_paired n calls answers) (reverse (take (n + 1) shown))
  up_to calls answers shown n k p e =
      subst (λ (c : Call). ReachedSome ((c, get_or answers n done) ∷ first_paired n calls answers) (reverse (take (n + 1) shown))) e
      (at_next calls answers shown n p.answered p.progressed (solve_inside calls n k e) (p.reached.table, p.reached.state, (p.reached.history, p.reached.counted)))

-- ---- two histories

pub agreed_by : (b b' : Behaviour) (m m' : Meaning) → Laws m → Laws m' → (calls calls' : List Call) (answers answers' : List Answer) (shown shown' : List Progress) (g : b.State) (g' : b'.State)
    → Played b m g calls answers shown → Played b' m' g' calls' answers' shown' → Agreed m calls answers m' calls' answers'
agreed_by b b' m m' L L' calls calls' answers answers' shown shown' g g' p p' n n' k k' e e' f f' =
    let (t, s, (H, q)) = up_to b m L g calls answers shown n k p e in
    let (t', s', (H', q')) = up_to b' m' L' g' calls' answers' shown' n' k' p' e' in
    results_agree b b' m m' L L' g g' [] [] (first_paired n calls answers) (first_paired n' calls' answers') k k' (get_or answers n done) (get_or answers' n' done) t t' s s' H H' f f'
