-- Where the search branches, the level's voice is the lowest that is not fixed, and nothing is missed by passing over the voices below.
use Rattle.std.proofs.Common.{◌≡◌, ℕ, ◌+◌, ◌<◌, ◌≤◌, Bool, true, false, List, [], ◌∷◌, length, get_or, drop, sym, refl, ap, ◌∙◌, subst, inl, inr, arith}
use Rattle.std.proofs.lemmas.Bool.{both_ways, cases_Bool, cases_lt}
use Rattle.std.proofs.lemmas.List.{length-drop}
use Rattle.sets.specs.Sets.{fixed}
use Rattle.sets.specs.Placings.{some_empty, all_fixed, Proper, values}
use Rattle.rows.specs.Rows.{RowData, Meaning}
use Rattle.rows.specs.Laws.{Laws}
use Rattle.stores.specs.Keys.{key}
use Rattle.stores.specs.Stores.{is_held, View}
use Rattle.search.proofs.AnyStore.{any}
use Rattle.search.specs.Search.{Level, Status, Node, Lowest, below, first_open, level_of, node, child, taken, BacksUp, Opens, Steps}
use Rattle.search.specs.Propagation.{propagated}
use Rattle.search.specs.Calls.{TableData, Call, Answer, OpensNodes, Does}
use Rattle.search.specs.Histories.{History, keys_lost}
use Rattle.search.specs.Branching.{AboveNewest, Ascending, NodeLowest, TableLowest, Rising}
use Rattle.rows.specs.Placed.{AllAccepted}
use Rattle.search.specs.Search.Status.{fresh, going}
use Rattle.search.specs.Search.Node.{dead, solution, hit, branch}
use Rattle.search.proofs.Boxes.{narrow_refl}
use Rattle.search.proofs.PropagationFacts.{propagated_ok}
use Rattle.search.proofs.LevelFacts.{Chain, FixedBelow, first_by, first_ok, fixed_drop, first_same, chain_fixed, chain_narrow, chain_inside, child_chain}
use Rattle.search.proofs.NodeFacts.{Stage, seen}
use Rattle.search.proofs.HistoryFacts.{Fit, fit, goes}

over_by : (ls : List Level) (k : ℕ) → below ls ≤ k → AboveNewest k ls
over_by [] k h = tt
over_by (l ∷ ls) k h = omega arith

module _ (m : Meaning) (rows : List RowData) (v : View) (b : List ℕ) where
  -- the node by its tests
  abbrev tests : ℕ → Bool → Bool → Node
  tests k x y =
      elim x [
        | true ↦ dead
        | false ↦
            elim y [
              | true ↦ solution (values b)
              | false ↦
                  elim (is_held (key m rows b) v.held) [ true ↦ hit | false ↦ branch (level_of k b) ]
            ]
      ]

  node_at : (k : ℕ) (x y : Bool) → some_empty b ≡ x → all_fixed (drop k b) ≡ y → node m rows v k b ≡ tests k x y
  node_at k x y e f = ap (λ (z : Bool). tests k z (all_fixed (drop k b))) e ∙ ap (λ (z : Bool). tests k x z) f

  -- to look from the voice k on is to look at all
  node_same : (k : ℕ) → (some_empty b ≡ false → FixedBelow k b) → node m rows v k b ≡ node m rows v 0 b
  node_same k f =
      elim (cases_Bool (some_empty b)) [
        | inl e ↦ node_at k true (all_fixed (drop k b)) e refl ∙ sym (node_at 0 true (all_fixed b) e refl)
        | inr e ↦ elim (cases_Bool (all_fixed b)) [
          | inl a ↦ node_at k false true e (fixed_drop k b (f e) ∙ a) ∙ sym (node_at 0 false true e a)
          | inr a ↦
              node_at k false false e (fixed_drop k b (f e) ∙ a)
              ∙ ap (λ (i : ℕ). elim (is_held (key m rows b) v.held) [ true ↦ hit | false ↦ branch (record { sets = b; voice = i; left = get_or b i 0 }) ]) (first_same k b (f e) a)
              ∙ sym (node_at 0 false false e a)
        ]
      ]

module _ (m : Meaning) (L : Laws m) (rows : List RowData) (voices : List ℕ) (okay : AllAccepted m rows (length voices)) where
  judges : (s : List ℕ) (ls : List Level) (v : View) → Proper s → Chain m rows voices ls s → NodeLowest m rows v ls s
  judges s ls v pr c = record {
    passed = passes;
    same = node_same m rows v b k passes;
    solution_exactly = λ p. (
      (λ h. let y = seen m rows v k b (solution p) h in (y.2, sym (fixed_drop k b (passes y.2)) ∙ y.0, y.1)),
      (λ h. node_at m rows v b k false true h.0 (fixed_drop k b (passes h.0) ∙ h.1) ∙ ap solution (sym h.2)),
    );
    branch_lowest = λ l h.
        let y = seen m rows v k b (branch l) h in
        subst (λ (x : Level). (x.sets ≡ b) × Lowest x.sets x.voice × (x.left ≡ get_or x.sets x.voice 0)) (sym y.2)
        (refl, first_ok k b (passes y.3) y.0, refl);
  }
    where
      k : ℕ
      k = below ls

      b : List ℕ
      b = propagated m rows s

      passes : some_empty (propagated m rows s) ≡ false → FixedBelow (below ls) (propagated m rows s)
      passes e =
          let ended = propagated_ok m L (length voices) rows s (chain_inside m rows voices ls s c).long okay pr in
          elim ended.1 [
            | inl y ↦ absurd (both_ways (some_empty (propagated m rows s)) e y)
            | inr y ↦ chain_fixed m rows voices ls (propagated m rows s) (chain_narrow m rows voices ls s (propagated m rows s) ended.0 c) y.0
          ]

  above : (ls : List Level) (l : Level) → Proper l.sets → Lowest l.sets l.voice → Chain m rows voices ls l.sets → AboveNewest l.voice ls
  above ls l p f c =
      elim (cases_lt l.voice (below ls)) [
        | inl h ↦ absurd (both_ways (fixed (get_or l.sets l.voice 0)) f.free (chain_fixed m rows voices ls l.sets c p l.voice h))
        | inr h ↦ over_by ls l.voice h
      ]

  ascend : (ls : List Level) (box : List ℕ) → Chain m rows voices ls box → Ascending (length voices) ls
  ascend [] box c = tt
  ascend (l ∷ ls) box c = let s = c.0 in (s.long, s.first, above ls l s.proper s.first c.3, ascend ls l.sets c.3)

  looks : (proper : Proper voices) (x : Status) (v : View) (o e : ℕ) → Stage m rows voices x v o e
      → ((l : Level) (ls : List Level) → x ≡ going l ls → Ascending (length voices) (l ∷ ls)) × ((l : Level) (ls : List Level) → x ≡ going l ls → NodeLowest m rows v (taken l ∷ ls) (child l))
  looks proper x v o e st = (
    (λ l ls h. let g = (at l ls h).0 in (g.sits.long, g.sits.first, above ls l g.sits.proper g.sits.first g.chain, ascend ls l.sets g.chain)),
    (λ l ls h. let g = at l ls h in let c = child_chain m rows voices l ls g.0 g.1 in judges (child l) (taken l ∷ ls) v c.1 c.0),
  )
    where
      at : (l : Level) (ls : List Level) → x ≡ going l ls → Stage m rows voices (going l ls) v o e
      at l ls h = subst (λ (y : Status). Stage m rows voices y v o e) h st

fit_looks : (m : Meaning) → Laws m → (lost : ℕ) (t : TableData) (v : View) → Fit m lost t v → TableLowest m t v
fit_looks m L lost t v f =
    let x = looks m L t.rows t.voices f.okay f.proper t.status v t.opened t.exhausted f.stage in
    record {
      levels = x.0;
      root = λ _. judges m L t.rows t.voices f.okay t.voices [] v f.proper (record { narrow = narrow_refl t.voices; keeps = λ q y h. y });
      next = x.1;
    }

pub branches_lowest : (m : Meaning) → Laws m → (h : List (Call × Answer)) (t : TableData) (v : View) → {g : View} → History any m g h t v
    → (n k : ℕ) (u : TableData) (w : View) → OpensNodes any m n t v u w k → TableLowest m u w
branches_lowest m L h t v H n k u w G = fit_looks m L (keys_lost H + k) u w (goes m L G (keys_lost H) (fit m L H))

-- ---- with no law of the bank

rise_first : (k : ℕ) (b : List ℕ) → all_fixed (drop k b) ≡ false → (k ≤ first_open k (drop k b)) × (first_open k (drop k b) < length b)
rise_first k b e =
    let (i, a, h) = first_by (drop k b) k e in
    (omega (arith, a), omega (arith, a, h.inside, length-drop k b))

abbrev StatusRises : Status → Type 0
StatusRises fresh = Unit {0}
StatusRises (going l ls) = Rising (l ∷ ls)
StatusRises (Status.satisfied p) = Unit {0}
StatusRises Status.unsatisfiable = Unit {0}

rise_back : {m : Meaning} {rows : List RowData} {ls : List Level} {v : View} {p : Status} {w : View} {n k : ℕ} → BacksUp any m rows ls v p w n k → Rising ls → StatusRises p
rise_back (BacksUp.root_failed v) r = tt
rise_back (BacksUp.value_left l ls v z) r = r
rise_back (BacksUp.key_kept l ls v w u p n k z K B) r = rise_back B r.2
rise_back (BacksUp.key_lost l ls v w u p n k z K B) r = rise_back B r.2

rise_opens : {m : Meaning} {rows : List RowData} {s : List ℕ} {ls : List Level} {v : View} {p : Status} {w : View} {n k : ℕ} → Opens any m rows s ls v p w n k → Rising ls → StatusRises p
rise_opens (Opens.finds p h) r = tt
rise_opens {m} {rows} {s} {ls} {v} (Opens.branches l h) r =
    let y = seen m rows v (below ls) (propagated m rows s) (branch l) h in
    let f = rise_first (below ls) (propagated m rows s) y.0 in
    subst (λ (x : Level). Rising (x ∷ ls)) (sym y.2) (over_by ls (level_of (below ls) (propagated m rows s)).voice f.0, f.1, r)
rise_opens (Opens.dies p w n k h B) r = rise_back B r
rise_opens (Opens.hits p w n k h B) r = rise_back B r

rise_steps : {m : Meaning} {voices : List ℕ} {rows : List RowData} {p : Status} {v : View} {q : Status} {w : View} {n k : ℕ} → Steps any m voices rows p v q w n k → StatusRises p → StatusRises q
rise_steps (Steps.opens_root v w p n k O) r = rise_opens O tt
rise_steps (Steps.opens_child l ls v w p n k O) r = rise_opens O r

rise_goes : {m : Meaning} {n : ℕ} {t : TableData} {v : View} {u : TableData} {w : View} {k : ℕ} → OpensNodes any m n t v u w k → StatusRises t.status → StatusRises u.status
rise_goes (OpensNodes.stay t v) r = r
rise_goes (OpensNodes.more b t u v w x p n k j S G) r = rise_goes G (rise_steps S r)

rise_does : {m : Meaning} {t : TableData} {v : View} {c : Call} {a : Answer} {u : TableData} {w : View} → Does any m t v c a u w → StatusRises t.status → StatusRises u.status
rise_does (Does.refuses c n j) r = r
rise_does (Does.declares s w j e) r = tt
rise_does (Does.posts bs w j e) r = tt
rise_does (Does.wipes w e) r = tt
rise_does (Does.solves b u w k j S) r = rise_goes S.goes r
rise_does (Does.reads buffer p j e) r = r

rise_history : {m : Meaning} {g : View} {h : List (Call × Answer)} {t : TableData} {v : View} → History any m g h t v → StatusRises t.status
rise_history (History.made v e) = tt
rise_history (History.then h t u v w c a H o d) = rise_does d (rise_history H)

pub levels_rise : (m : Meaning) (h : List (Call × Answer)) (t : TableData) (v : View) → {g : View} → History any m g h t v
    → (n k : ℕ) (u : TableData) (w : View) → OpensNodes any m n t v u w k → (l : Level) (ls : List Level) → u.status ≡ going l ls → Rising (l ∷ ls)
levels_rise m h t v H n k u w G l ls e = subst StatusRises e (rise_goes G (rise_history H))
