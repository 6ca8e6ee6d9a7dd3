-- Over a store of which nothing is open every call comes to something, and to one thing only; so do whole histories.
use Rattle.std.proofs.Common.{◌≡◌, ℕ, zero, suc, ◌+◌, ◌≤◌, Bool, true, false, eqb, ◌⊎◌, List, [], ◌∷◌, ◌++◌, length, drop, sym, refl, ap, ◌∙◌, subst, ap₂, inl, inr, arith}
use Rattle.std.proofs.lemmas.Bool.{both_ways, cases_Bool, not-false}
use Rattle.rows.specs.Rows.{RowData, Meaning}
use Rattle.rows.specs.Bytes.{decode}
use Rattle.stores.specs.Keys.{key}
use Rattle.stores.specs.Behaviours.{Behaviour, Decided}
use Rattle.stores.specs.declared.store.Stored.{Stored}
use Rattle.search.specs.Search.{Level, Status, Node, node, below, child, taken, BacksUp, Opens, Steps}
use Rattle.search.specs.Propagation.{propagated}
use Rattle.rows.specs.Reasons.{Judgement}
use Rattle.search.specs.Calls.{TableData, fresh_table, empty, Call, Answer, judged, reasons, over, is_found, status_answer, result, node_more, OpensNodes, SolveRun, Does, lost_after}
use Rattle.search.specs.Histories.{History, keys_lost, calls_in}
use Rattle.search.specs.CallOutcomes.{CallOutcome}
use Rattle.search.specs.Theorems.{OneOutcome, OneHistory}
use Rattle.stores.specs.declared.store.Stored.TheVariants.{Kept, Lost}
use Rattle.search.specs.Search.Status.{fresh, going, satisfied, unsatisfiable}
use Rattle.search.specs.Search.Node.{dead, solution, hit, branch}
use Rattle.search.specs.Calls.Call.{declare, post, solve, read, wipe}
use Rattle.rows.specs.Reasons.Judgement.{passes, refused_under}
use Rattle.search.proofs.HistoryFacts.{none_fits}
use Rattle.search.proofs.AnyStore.{steps_open}

-- what a node comes to
pub record Ran (S : Type 0) : Type 0 where
  pub status : Status
  pub state : S
  pub exhausts : ℕ
  pub loses : ℕ

module _ (store : Behaviour) (d : Decided store) (m : Meaning) where
  -- ---- the outcome, as functions

  abbrev pub count_lost : Stored → ℕ → ℕ
  count_lost Kept k = k
  count_lost Lost k = suc k

  -- one level more
  abbrev pub up : Stored → Ran store.State → Ran store.State
  up a r = record { status = r.status; state = r.state; exhausts = suc r.exhausts; loses = count_lost a r.loses }

  -- nothing is exhausted, and this is the search's status
  abbrev pub stops : Status → store.State → Ran store.State
  stops p v = record { status = p; state = v; exhausts = 0; loses = 0 }

  -- at a level, by whether it has no value left to try; and how the backing up then goes on
  abbrev pub backs_at : List RowData → Level → List Level → store.State → (store.State → Ran store.State) → Bool → Ran store.State
  backs_at rows l ls v others spent =
      elim spent [ false ↦ stops (going l ls) v | true ↦ up (d.answer v (key m rows l.sets)) (others (d.after v (key m rows l.sets))) ]

  abbrev pub backs : List RowData → List Level → store.State → Ran store.State
  backs rows [] v = stops unsatisfiable v
  backs rows (l ∷ ls) v = backs_at rows l ls v (backs rows ls) (eqb l.left 0)

  abbrev pub opened : List RowData → List Level → store.State → Node → Ran store.State
  opened rows ls v dead = backs rows ls v
  opened rows ls v (solution p) = stops (satisfied p) v
  opened rows ls v hit = backs rows ls v
  opened rows ls v (branch l) = stops (going l ls) v

  abbrev pub opens : List RowData → List ℕ → List Level → store.State → Ran store.State
  opens rows b ls v = opened rows ls v (node m rows (store.view v) (below ls) (propagated m rows b))

  abbrev pub step : List ℕ → List RowData → Status → store.State → Ran store.State
  step voices rows fresh v = opens rows voices [] v
  step voices rows (going l ls) v = opens rows (child l) (taken l ∷ ls) v
  step voices rows (satisfied p) v = stops (satisfied p) v
  step voices rows unsatisfiable v = stops unsatisfiable v

  abbrev pub next : TableData → Ran store.State → TableData
  next t r = node_more t r.status r.exhausts

  -- with as many keys lost before
  abbrev pub lost_first : ℕ → TableData × store.State × ℕ → TableData × store.State × ℕ
  lost_first k x = (x.0, x.1, k + x.2)

  -- one node, and then the others
  abbrev pub run_on : (TableData → store.State → TableData × store.State × ℕ) → TableData → Ran store.State → TableData × store.State × ℕ
  run_on others t r = lost_first r.loses (others (next t r) r.state)

  -- by whether the search is over
  abbrev pub run_by : (TableData → store.State → TableData × store.State × ℕ) → TableData → store.State → Bool → TableData × store.State × ℕ
  run_by others t v ended = elim ended [ true ↦ (t, v, 0) | false ↦ run_on others t (step t.voices t.rows t.status v) ]

  -- the table, the store's state, and how many keys were lost
  abbrev pub run : ℕ → TableData → store.State → TableData × store.State × ℕ
  run zero t v = (t, v, 0)
  run (suc b) t v = run_by (run b) t v (over t.status)

  -- ---- what a relation gives is what the function gives

  backs_is : {rows : List RowData} {ls : List Level} {v : store.State} {p : Status} {w : store.State} {n k : ℕ} (B : BacksUp store m rows ls v p w n k)
      → backs rows ls v ≡ record { status = p; state = w; exhausts = n; loses = k }
  backs_is (BacksUp.root_failed v) = refl
  backs_is {rows} (BacksUp.value_left l ls v z) =
      ap (backs_at rows l ls v (backs rows ls)) z
  backs_is {rows} (BacksUp.key_kept l ls v w u p n k z K B) =
      ap (backs_at rows l ls v (backs rows ls)) z
      ∙ ap₂ (λ (a : Stored) (x : store.State). up a (backs rows ls x)) (sym (d.answer_only v w (key m rows l.sets) Kept K)) (sym (d.after_only v w (key m rows l.sets) Kept K))
      ∙ ap (up Kept) (backs_is B)
  backs_is {rows} (BacksUp.key_lost l ls v w u p n k z K B) =
      ap (backs_at rows l ls v (backs rows ls)) z
      ∙ ap₂ (λ (a : Stored) (x : store.State). up a (backs rows ls x)) (sym (d.answer_only v w (key m rows l.sets) Lost K)) (sym (d.after_only v w (key m rows l.sets) Lost K))
      ∙ ap (up Lost) (backs_is B)

  opens_is : {rows : List RowData} {b : List ℕ} {ls : List Level} {v : store.State} {p : Status} {w : store.State} {n k : ℕ} (O : Opens store m rows b ls v p w n k)
      → opens rows b ls v ≡ record { status = p; state = w; exhausts = n; loses = k }
  opens_is {rows} {b} {ls} {v} (Opens.finds p h) = ap (opened rows ls v) h
  opens_is {rows} {b} {ls} {v} (Opens.branches l h) = ap (opened rows ls v) h
  opens_is {rows} {b} {ls} {v} (Opens.dies p w n k h B) = ap (opened rows ls v) h ∙ backs_is B
  opens_is {rows} {b} {ls} {v} (Opens.hits p w n k h B) = ap (opened rows ls v) h ∙ backs_is B

  step_is : {voices : List ℕ} {rows : List RowData} {p : Status} {v : store.State} {q : Status} {w : store.State} {n k : ℕ} (S : Steps store m voices rows p v q w n k)
      → step voices rows p v ≡ record { status = q; state = w; exhausts = n; loses = k }
  step_is (Steps.opens_root v w p n k O) = opens_is O
  step_is (Steps.opens_child l ls v w p n k O) = opens_is O

  run_over : (b : ℕ) (t : TableData) (v : store.State) → over t.status ≡ true → run b t v ≡ (t, v, 0)
  run_over zero t v e = refl
  run_over (suc b) t v e = ap (run_by (run b) t v) e

  run_more : (b : ℕ) (t : TableData) (v : store.State) → over t.status ≡ false → run (suc b) t v ≡ run_on (run b) t (step t.voices t.rows t.status v)
  run_more b t v e = ap (run_by (run b) t v) e

  run_is : {n : ℕ} {t : TableData} {v : store.State} {u : TableData} {w : store.State} {k : ℕ} (G : OpensNodes store m n t v u w k) → (b : ℕ) → n ≤ b
      → (over u.status ≡ true) ⊎ (n ≡ b) → run b t v ≡ (u, w, k)
  run_is (OpensNodes.stay t v) zero l e = refl
  run_is (OpensNodes.stay t v) (suc b) l e = elim e [ inl o ↦ run_over (suc b) t v o | inr o ↦ absurd (omega arith) ]
  run_is (OpensNodes.more n t u v w x p i k j S G) zero l e = absurd (omega arith)
  run_is (OpensNodes.more n t u v w x p i k j S G) (suc b) l e =
      run_more b t v (steps_open store m S)
      ∙ ap (run_on (run b) t) (step_is S)
      ∙ ap (lost_first k) (run_is G b (omega arith) (elim e [ inl o ↦ inl o | inr o ↦ inr (omega arith) ]))

  -- what a call comes to, where i keys were lost before, and how many are lost then
  abbrev pub comes : ℕ → TableData → store.State → Call → Judgement → Answer × TableData × store.State × ℕ
  comes i t v c (refused_under n) = (Answer.refused n, t, v, i)
  comes i t v (declare x) passes = (Answer.done, fresh_table (t.voices ++ (x ∷ [])) t.rows, d.emptied v, 0)
  comes i t v (post bs) passes = (Answer.done, fresh_table t.voices (t.rows ++ (decode m bs ∷ [])), d.emptied v, 0)
  comes i t v (solve b) passes = (status_answer (run b t v).0.status, (run b t v).0, (run b t v).1, i + (run b t v).2)
  comes i t v (read buffer) passes = (Answer.wrote (length (result t.status)) (result t.status ++ drop (length (result t.status)) buffer), t, v, i)
  comes i t v wipe passes = (Answer.done, empty, d.emptied v, 0)

  pub does_is : {t : TableData} {v : store.State} {c : Call} {a : Answer} {u : TableData} {w : store.State} (D : Does store m t v c a u w) (i : ℕ)
      → comes i t v c (judged m t c) ≡ (a, u, w, lost_after D i)
  does_is {t} {v} (Does.refuses c n j) i = ap (comes i t v c) j
  does_is {t} {v} (Does.declares x w j e) i =
      ap (comes i t v (declare x)) j ∙ ap (λ (z : store.State). (Answer.done, fresh_table (t.voices ++ (x ∷ [])) t.rows, z, zero)) (sym (d.emptied_only v w e))
  does_is {t} {v} (Does.posts bs w j e) i =
      ap (comes i t v (post bs)) j ∙ ap (λ (z : store.State). (Answer.done, fresh_table t.voices (t.rows ++ (decode m bs ∷ [])), z, zero)) (sym (d.emptied_only v w e))
  does_is {t} {v} (Does.wipes w e) i = ap (λ (z : store.State). (Answer.done, empty, z, zero)) (sym (d.emptied_only v w e))
  does_is {t} {v} (Does.solves b u w k j S) i =
      ap (comes i t v (solve b)) j ∙ ap (λ (r : TableData × store.State × ℕ). (status_answer r.0.status, r.0, r.1, i + r.2)) (run_is S.goes b S.inside S.ends)
  does_is {t} {v} (Does.reads buffer p j e) i =
      ap (comes i t v (read buffer)) j ∙ ap (λ (x : Status). (Answer.wrote (length (result x)) (result x ++ drop (length (result x)) buffer), t, v, i)) e

  only_one : (t : TableData) (v : store.State) (c : Call) (x y : CallOutcome store m t v c)
      → (x.answer ≡ y.answer) × (x.table ≡ y.table) × (x.state ≡ y.state) × ((i : ℕ) → lost_after x.does i ≡ lost_after y.does i)
  only_one t v c x y = (
    ap (λ (r : Answer × TableData × store.State × ℕ). r.0) (e 0),
    ap (λ (r : Answer × TableData × store.State × ℕ). r.1) (e 0),
    ap (λ (r : Answer × TableData × store.State × ℕ). r.2) (e 0),
    (λ i. ap (λ (r : Answer × TableData × store.State × ℕ). r.3) (e i)),
  )
    where
      e : (i : ℕ) → ◌≡◌ {A = Answer × TableData × store.State × ℕ} (x.answer, x.table, x.state, lost_after x.does i) (y.answer, y.table, y.state, lost_after y.does i)
      e i = sym (does_is x.does i) ∙ does_is y.does i

  -- ---- there is an outcome

  record SomeUp (rows : List RowData) (ls : List Level) (v : store.State) : Type 0 where
    status : Status
    state : store.State
    exhausts : ℕ
    loses : ℕ
    does : BacksUp store m rows ls v status state exhausts loses

  some_up : (rows : List RowData) (ls : List Level) (v : store.State) → SomeUp rows ls v
  some_up rows [] v = record { status = unsatisfiable; state = v; exhausts = 0; loses = 0; does = BacksUp.root_failed v }
  some_up rows (l ∷ ls) v =
      elim (cases_Bool (eqb l.left 0)) [
        | inr z ↦ record { status = going l ls; state = v; exhausts = 0; loses = 0; does = BacksUp.value_left l ls v z }
        | inl z ↦ go rows l ls v z (d.answer v (key m rows l.sets)) refl (some_up rows ls (d.after v (key m rows l.sets)))
      ]
    where
      go : (rows : List RowData) (l : Level) (ls : List Level) (v : store.State) → eqb l.left 0 ≡ true → (a : Stored) → d.answer v (key m rows l.sets) ≡ a
          → SomeUp rows ls (d.after v (key m rows l.sets)) → SomeUp rows (l ∷ ls) v
      go rows l ls v z Kept e r =
          let w = d.after v (key m rows l.sets) in
          let K = subst (λ (a : Stored). store.keeps v (key m rows l.sets) a w) e (d.keeps v (key m rows l.sets)) in
          record {
            status = r.status;
            state = r.state;
            exhausts = suc r.exhausts;
            loses = r.loses;
            does = BacksUp.key_kept l ls v w r.state r.status r.exhausts r.loses z K r.does;
          }
      go rows l ls v z Lost e r =
          let w = d.after v (key m rows l.sets) in
          let K = subst (λ (a : Stored). store.keeps v (key m rows l.sets) a w) e (d.keeps v (key m rows l.sets)) in
          record {
            status = r.status;
            state = r.state;
            exhausts = suc r.exhausts;
            loses = suc r.loses;
            does = BacksUp.key_lost l ls v w r.state r.status r.exhausts r.loses z K r.does;
          }

  record SomeOpen (rows : List RowData) (b : List ℕ) (ls : List Level) (v : store.State) : Type 0 where
    status : Status
    state : store.State
    exhausts : ℕ
    loses : ℕ
    does : Opens store m rows b ls v status state exhausts loses

  some_open : (rows : List RowData) (b : List ℕ) (ls : List Level) (v : store.State) → SomeOpen rows b ls v
  some_open rows b ls v = go (node m rows (store.view v) (below ls) (propagated m rows b)) refl (some_up rows ls v)
    where
      go : (x : Node) → node m rows (store.view v) (below ls) (propagated m rows b) ≡ x → SomeUp rows ls v → SomeOpen rows b ls v
      go dead e r = record { status = r.status; state = r.state; exhausts = r.exhausts; loses = r.loses; does = Opens.dies r.status r.state r.exhausts r.loses e r.does }
      go hit e r = record { status = r.status; state = r.state; exhausts = r.exhausts; loses = r.loses; does = Opens.hits r.status r.state r.exhausts r.loses e r.does }
      go (solution p) e r = record { status = satisfied p; state = v; exhausts = 0; loses = 0; does = Opens.finds p e }
      go (branch l) e r = record { status = going l ls; state = v; exhausts = 0; loses = 0; does = Opens.branches l e }

  record SomeStep (voices : List ℕ) (rows : List RowData) (p : Status) (v : store.State) : Type 0 where
    status : Status
    state : store.State
    exhausts : ℕ
    loses : ℕ
    does : Steps store m voices rows p v status state exhausts loses

  some_step : (voices : List ℕ) (rows : List RowData) (p : Status) (v : store.State) → (over p ≡ true) ⊎ SomeStep voices rows p v
  some_step voices rows fresh v =
      let r = some_open rows voices [] v in
      inr (record { status = r.status; state = r.state; exhausts = r.exhausts; loses = r.loses; does = Steps.opens_root v r.state r.status r.exhausts r.loses r.does })
  some_step voices rows (going l ls) v =
      let r = some_open rows (child l) (taken l ∷ ls) v in
      inr (record { status = r.status; state = r.state; exhausts = r.exhausts; loses = r.loses; does = Steps.opens_child l ls v r.state r.status r.exhausts r.loses r.does })
  some_step voices rows (satisfied p) v = inl refl
  some_step voices rows unsatisfiable v = inl refl

  record SomeSolve (b : ℕ) (t : TableData) (v : store.State) : Type 0 where
    table : TableData
    state : store.State
    loses : ℕ
    does : SolveRun store m b t v table state loses

  some_solve : (b : ℕ) (t : TableData) (v : store.State) → SomeSolve b t v
  some_solve zero t v = record { table = t; state = v; loses = 0; does = record { count = 0; inside = omega arith; goes = OpensNodes.stay t v; ends = inr refl } }
  some_solve (suc b) t v =
      elim (some_step t.voices t.rows t.status v) [
        | inl e ↦ record { table = t; state = v; loses = 0; does = record { count = 0; inside = omega arith; goes = OpensNodes.stay t v; ends = inl e } }
        | inr q ↦
            let r = some_solve b (next t (record { status = q.status; state = q.state; exhausts = q.exhausts; loses = q.loses })) q.state in
            record {
              table = r.table;
              state = r.state;
              loses = q.loses + r.loses;
              does = record {
                count = suc r.does.count;
                inside = omega (arith, r.does.inside);
                goes = OpensNodes.more r.does.count t r.table v q.state r.state q.status q.exhausts q.loses r.loses q.does r.does.goes;
                ends = elim r.does.ends [ inl e ↦ inl e | inr e ↦ inr (ap suc e) ];
              };
            }
      ]

  found_by : (x : Status) → is_found x ≡ true → x ≡ satisfied (result x)
  found_by fresh e = absurd (both_ways false refl e)
  found_by (going l ls) e = absurd (both_ways false refl e)
  found_by (satisfied p) e = refl
  found_by unsatisfiable e = absurd (both_ways false refl e)

  outcome : (t : TableData) (v : store.State) (c : Call) → CallOutcome store m t v c
  outcome t v c = go c (judged m t c) refl
    where
      go : (c : Call) (j : Judgement) → judged m t c ≡ j → CallOutcome store m t v c
      go c (refused_under n) e = record { answer = Answer.refused n; table = t; state = v; does = Does.refuses c n e }
      go (declare x) passes e =
          record { answer = Answer.done; table = fresh_table (t.voices ++ (x ∷ [])) t.rows; state = d.emptied v; does = Does.declares x (d.emptied v) e (d.empties v) }
      go (post bs) passes e =
          record { answer = Answer.done; table = fresh_table t.voices (t.rows ++ (decode m bs ∷ [])); state = d.emptied v; does = Does.posts bs (d.emptied v) e (d.empties v) }
      go (solve b) passes e =
          let r = some_solve b t v in
          record { answer = status_answer r.table.status; table = r.table; state = r.state; does = Does.solves b r.table r.state r.loses e r.does }
      go (read buffer) passes e =
          let p = result t.status in
          record {
            answer = Answer.wrote (length p) (p ++ drop (length p) buffer);
            table = t;
            state = v;
            does = Does.reads buffer p e (found_by t.status (not-false (is_found t.status) (none_fits (reasons m t (read buffer)) e).0));
          }
      go wipe passes e = record { answer = Answer.done; table = empty; state = d.emptied v; does = Does.wipes (d.emptied v) (d.empties v) }

pub one_outcome : (store : Behaviour) → Decided store → OneOutcome store
one_outcome store d m t v c = (outcome store d m t v c, only_one store d m t v c)

-- ---- whole histories, as a function of their calls

-- what a history has come to
pub record Played (S : Type 0) : Type 0 where
  pub calls : List (Call × Answer)
  pub table : TableData
  pub state : S
  pub lost : ℕ

abbrev pub noted : {S : Type 0} → Call → List (Call × Answer) → Answer × TableData × S × ℕ → Played S
noted c h r = record { calls = (c, r.0) ∷ h; table = r.1; state = r.2; lost = r.3 }

module _ (store : Behaviour) (d : Decided store) (m : Meaning) (g : store.State) where
  -- one call more
  abbrev pub play : Call → Played store.State → Played store.State
  play c p = noted c p.calls (comes store d m p.lost p.table p.state c (judged m p.table c))

  -- the newest call first
  abbrev pub replay : List Call → Played store.State
  replay [] = record { calls = []; table = empty; state = d.emptied g; lost = 0 }
  replay (c ∷ cs) = play c (replay cs)

  -- a history is what its calls come to when they are played
  pub replayed : {h : List (Call × Answer)} {t : TableData} {s : store.State} (H : History store m g h t s)
      → replay (calls_in h) ≡ record { calls = h; table = t; state = s; lost = keys_lost H }
  replayed (History.made s e) = ap (λ (x : store.State). record { calls = []; table = empty; state = x; lost = 0 }) (sym (d.emptied_only g s e))
  replayed (History.then h t u s r c a H f D) = ap (play c) (replayed H) ∙ ap (noted c h) (does_is store d m D (keys_lost H))

pub one_history : (store : Behaviour) → Decided store → OneHistory store
one_history store d m g h h' t t' s s' H H' e =
    let same : record { calls = h; table = t; state = s; lost = keys_lost H } ≡ record { calls = h'; table = t'; state = s'; lost = keys_lost H' } =
    sym (replayed store d m g H) ∙ ap (replay store d m g) e ∙ replayed store d m g H' in (
      ap (λ (p : Played store.State). p.calls) same,
      ap (λ (p : Played store.State). p.table) same,
      ap (λ (p : Played store.State). p.state) same,
      ap (λ (p : Played store.State). p.lost) same,
    )
