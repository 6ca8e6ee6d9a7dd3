-- One node, and runs of nodes one after the other.
use Rattle.std.proofs.Common.{◌≡◌, ℕ, ◌+◌, ◌≤◌, true, false, ◌⊎◌, List, [], ◌∷◌, get_or, refl, ap, ap₂, ◌∙◌, sym, subst, arith}
use Rattle.sets.specs.Placings.{values}
use Rattle.rows.specs.Rows.{RowData, Meaning}
use Rattle.stores.specs.Behaviours.{Behaviour}
use Rattle.search.specs.Search.{Level, Status, Opens, Steps, taken, node, below}
use Rattle.search.specs.Search.Node.{solution, branch}
use Rattle.search.specs.Propagation.{propagated}
use Rattle.search.specs.Calls.{TableData, over, OpensNodes}
use Rattle.table.specs.declared.engine.level.End.{End}
use Rattle.table.specs.declared.engine.level.End.TheVariants.{Fresh, Found, Exhausted}
use Rattle.table.specs.Levels.{Backed, next_sets, next_levels}
use Rattle.table.specs.Statuses.{status_at}
use Rattle.table.specs.Searches.{NodesRun, BudgetRun}
use Rattle.table.specs.Nodes.{node_of}
use Rattle.table.specs.declared.engine.node.NodeClass as code
use Rattle.table.specs.declared.engine.node.NodeClass.TheVariants.{Dead, Hit}
use Rattle.table.proofs.Openings.{Opened, failed, opened_failed, opened_solution, opened_branch}

-- ---- the node that is opened next

-- one node is opened, the root or the next child of the newest level; n levels are exhausted
pub record Advanced (st : Behaviour) (m : Meaning) (voices : List ℕ) (rows : List RowData) (p : Status) (v : st.State) (q : Status) (w : st.State) (n : ℕ) : Type 0 where
  pub lost : ℕ
  pub steps : Steps st m voices rows p v q w n lost

module _ (st : Behaviour) where
  pub next_step : (m : Meaning) (voices : List ℕ) (rows : List RowData) (s : List ℕ) (ls : List Level) (e : End) (y : List ℕ) (v x : st.State) (q : Status) (i : ℕ)
      → over (status_at e y ls) ≡ false → s ≡ next_sets voices ls → Opened st m rows s (next_levels ls) v q x i → Advanced st m voices rows (status_at e y ls) v q x i
  next_step m voices rows s [] Fresh y v x q i h f o =
      record { lost = o.lost; steps = Steps.opens_root v x q i o.lost (subst (λ t. Opens st m rows t [] v q x i o.lost) f o.opens) }
  next_step m voices rows s [] Found y v x q i h f o = cc
  next_step m voices rows s [] Exhausted y v x q i h f o = cc
  next_step m voices rows s (l ∷ ls) e y v x q i h f o =
      record { lost = o.lost; steps = Steps.opens_child l ls v x q i o.lost (subst (λ t. Opens st m rows t (taken l ∷ ls) v q x i o.lost) f o.opens) }

  -- ---- runs

  abbrev pub table : List ℕ → List RowData → Status → ℕ → ℕ → TableData
  table voices rows p o e = record { voices = voices; rows = rows; status = p; opened = o; exhausted = e }

  pub ran_one : (m : Meaning) (voices : List ℕ) (rows : List RowData) (p q : Status) (o e o' e' : ℕ) (v w : st.State) (n : ℕ) → o' ≡ o + 1 → e' ≡ e + n → Advanced st m voices rows p v q w n
      → NodesRun st m 1 (table voices rows p o e) v (table voices rows q o' e') w
  ran_one m voices rows p q o e o' e' v w n c d a =
      subst (λ (x : ℕ). NodesRun st m 1 (table voices rows p o e) v (table voices rows q x e') w) (sym c)
      (subst (λ (x : ℕ). NodesRun st m 1 (table voices rows p o e) v (table voices rows q (o + 1) x) w) (sym d)
      (record {
        lost = a.lost + 0;
        goes = OpensNodes.more 0 (table voices rows p o e) (table voices rows q (o + 1) (e + n)) v w w q n a.lost 0 a.steps
            (OpensNodes.stay (table voices rows q (o + 1) (e + n)) w);
      }))

  -- ---- a step, by what its calls say

  -- The search with the levels ls enters the sets s, which are propagated to t below the levels above; it then has the sets y.
  module _ (m : Meaning) (voices : List ℕ) (rows : List RowData) (e : End) (x s t y : List ℕ) (ls above : List Level) (o n : ℕ) (v : st.State) (k : ℕ)
      (going : over (status_at e x ls) ≡ false) (entered : s ≡ next_sets voices ls) (narrowed : t ≡ propagated m rows s) (fixed : k ≡ below above) (under : above ≡ next_levels ls) where
    steps_by : (q : Status) (w : st.State) (i : ℕ) → Opened st m rows s (next_levels ls) v q w i
        → NodesRun st m 1 (table voices rows (status_at e x ls) o n) v (table voices rows q (o + 1) (n + i)) w
    steps_by q w i h =
        ran_one m voices rows (status_at e x ls) q o n (o + 1) (n + i) v w i refl refl (next_step m voices rows s ls e x v w q i going entered h)

    pub step_failed : (r : code.NodeClass) (rest : List Level) (w : st.State) (i : ℕ) → (r ≡ Dead) ⊎ (r ≡ Hit) → node m rows (st.view v) k t ≡ node_of r t
        → Backed st m rows above v rest w i
        → NodesRun st m 1 (table voices rows (status_at e x ls) o n) v (table voices rows (status_at Exhausted y rest) (o + 1) (n + i)) w
    step_failed r rest w i f h b =
        steps_by (status_at Exhausted y rest) w i
        (opened_failed st m rows s t ls v k (node_of r t) above w rest y i (failed r t f) narrowed (fixed ∙ ap below under) h under b)

    pub step_found : (rest : List Level) → node m rows (st.view v) k t ≡ solution (values t) → rest ≡ [] → y ≡ t
        → NodesRun st m 1 (table voices rows (status_at e x ls) o n) v (table voices rows (status_at Found y rest) (o + 1) n) v
    step_found rest h q z =
        subst (λ (j : ℕ). NodesRun st m 1 (table voices rows (status_at e x ls) o n) v (table voices rows (status_at Found y rest) (o + 1) j) v) (omega arith)
        (steps_by (status_at Found y rest) v 0 (opened_solution st m rows s t ls v k rest y narrowed (fixed ∙ ap below under) h q z))

    pub step_branched : (j : ℕ) (rest : List Level) (z : List ℕ) → node m rows (st.view v) k t ≡ branch (record { sets = t; voice = j; left = get_or t j 0 })
        → z ≡ t → rest ≡ record { sets = z; voice = j; left = get_or z j 0 } ∷ above
        → NodesRun st m 1 (table voices rows (status_at e x ls) o n) v (table voices rows (status_at e y rest) (o + 1) n) v
    step_branched j rest z h q p =
        subst (λ (i : ℕ). NodesRun st m 1 (table voices rows (status_at e x ls) o n) v (table voices rows (status_at e y rest) (o + 1) i) v) (omega arith)
        (steps_by (status_at e y rest) v 0 (opened_branch st m rows s t ls v k (record { sets = t; voice = j; left = get_or t j 0 }) rest e y narrowed (fixed ∙ ap below under) h
        (p ∙ ap₂ (λ (a : List ℕ) (b : List Level). record { sets = a; voice = j; left = get_or a j 0 } ∷ b) q under)))

  recount : {m : Meaning} {b c : ℕ} {t : TableData} {v : st.State} {u : TableData} {w : st.State} {i j : ℕ} → b ≡ c → i ≡ j → OpensNodes st m b t v u w i
      → OpensNodes st m c t v u w j
  recount {m} {b} {c} {t} {v} {u} {w} {i} {j} e f g = subst (λ (k : ℕ). OpensNodes st m c t v u w k) f (subst (λ (n : ℕ). OpensNodes st m n t v u w i) e g)

  goes_then : {m : Meaning} {b c : ℕ} {t : TableData} {v : st.State} {u : TableData} {w : st.State} {x : TableData} {y : st.State} {i j : ℕ} → OpensNodes st m b t v u w i
      → OpensNodes st m c u w x y j → OpensNodes st m (b + c) t v x y (i + j)
  goes_then (OpensNodes.stay t v) h = recount (omega arith) (omega arith) h
  goes_then {c = c} {x = x} {y = y} {j = j} (OpensNodes.more b t u v w z p n k i S G) h =
      recount (omega arith) (omega arith) (OpensNodes.more (b + c) t x v w y p n k (i + j) S (goes_then G h))

  pub ran_none : (m : Meaning) (t : TableData) (v : st.State) (n : ℕ) → n ≡ 0 → NodesRun st m n t v t v
  ran_none m t v n e = record { lost = 0; goes = recount (sym e) refl (OpensNodes.stay t v) }

  pub ran_then : (m : Meaning) (b c d : ℕ) (t : TableData) (v : st.State) (u : TableData) (w : st.State) (x : TableData) (y : st.State) → d ≡ b + c
      → NodesRun st m b t v u w → NodesRun st m c u w x y → NodesRun st m d t v x y
  ran_then m b c d t v u w x y e r q = record { lost = r.lost + q.lost; goes = recount (sym e) refl (goes_then r.goes q.goes) }

  pub runs_by : (m : Meaning) (budget count : ℕ) (t : TableData) (v : st.State) (u : TableData) (w : st.State) → count ≤ budget → NodesRun st m count t v u w
      → (over u.status ≡ true) ⊎ (count ≡ budget) → BudgetRun st m budget t v u w
  runs_by m budget count t v u w h r e = record { lost = r.lost; run = record { count = count; inside = h; goes = r.goes; ends = e } }
