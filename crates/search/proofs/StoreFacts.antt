-- Where no key is lost, what a call does depends only on the keys that its store holds.
use Rattle.std.proofs.Common.{◌≡◌, ℕ, zero, suc, ◌≤◌, Bool, true, false, ◌||◌, eqb, ◌⊎◌, List, [], ◌∷◌, ◌++◌, length, drop, sym, refl, ap, ◌∙◌, subst, inl, inr, arith}
use Rattle.std.proofs.lemmas.Bool.{both_ways}
use Rattle.sets.specs.Placings.{some_empty, all_fixed, values, same}
use Rattle.rows.specs.Rows.{RowData, Meaning}
use Rattle.stores.specs.Keys.{key}
use Rattle.stores.specs.Stores.{is_held, View, Keeps}
use Rattle.stores.specs.declared.store.Stored.TheVariants.{Kept}
use Rattle.search.proofs.AnyStore.{any}
use Rattle.search.specs.Search.{Level, Status, Node, node, level_of, below, child, taken, BacksUp, Opens, Steps}
use Rattle.search.specs.Propagation.{propagated}
use Rattle.rows.specs.Reasons.{Judgement}
use Rattle.search.specs.Calls.{TableData, Call, Answer, over, status_answer, result, node_more, OpensNodes, Does, lost_after}
use Rattle.search.specs.CallOutcomes.{SameKeys}
use Rattle.search.specs.Search.Status.{going, satisfied, unsatisfiable}
use Rattle.search.specs.Search.Node.{dead, solution, hit, branch}
use Rattle.search.proofs.HistoryFacts.{not_both}
use Rattle.search.proofs.AnswerFacts.{steps_not_over}

keeps_agree : (v v' : View) (k : List ℕ) (w w' : View) → SameKeys v v' → Keeps v k Kept w → Keeps v' k Kept w' → SameKeys w w'
keeps_agree v v' k w w' s (Keeps.held_already h) (Keeps.held_already g) = s
keeps_agree v v' k w w' s (Keeps.held_already h) (Keeps.joins x g f j) = absurd (both_ways (is_held k v'.held) g (sym (s k) ∙ h))
keeps_agree v v' k w w' s (Keeps.joins x g f j) (Keeps.held_already h) = absurd (both_ways (is_held k v.held) g (s k ∙ h))
keeps_agree v v' k w w' s (Keeps.joins x g f j) (Keeps.joins x' g' f' j') =
    λ y. j.holds y ∙ ap (λ (b : Bool). same y k || b) (s y) ∙ sym (j'.holds y)

module _ (m : Meaning) where
  -- what two outcomes share
  abbrev Both : Status → View → ℕ → Status → View → ℕ → Type 0
  Both p w n p' w' n' = (p ≡ p') × (n ≡ n') × SameKeys w w'

  -- backing up with no key lost, level by level
  abbrev Backed : List RowData → List Level → View → Status → View → ℕ → Type 0
  Backed rows [] v p w n = (p ≡ unsatisfiable) × (w ≡ v) × (n ≡ 0)
  Backed rows (l ∷ ls) v p w n =
      ((eqb l.left 0 ≡ false) × (p ≡ going l ls) × (w ≡ v) × (n ≡ 0))
      ⊎ ((eqb l.left 0 ≡ true) × (x : View) × (i : ℕ) × Keeps v (key m rows l.sets) Kept x × (n ≡ suc i) × Backed rows ls x p w i)

  backed : {rows : List RowData} {ls : List Level} {v : View} {p : Status} {w : View} {n k : ℕ} → BacksUp any m rows ls v p w n k → k ≡ 0 → Backed rows ls v p w n
  backed (BacksUp.root_failed v) e = (refl, refl, refl)
  backed (BacksUp.value_left l ls v z) e = inl (z, refl, refl, refl)
  backed (BacksUp.key_kept l ls v w u p n k z K B) e = inr (z, w, n, K, refl, backed B e)
  backed (BacksUp.key_lost l ls v w u p n k z K B) e = absurd (omega arith)

  moved : (v v' w w' : View) → w ≡ v → w' ≡ v' → SameKeys v v' → SameKeys w w'
  moved v v' w w' e e' s x = ap (λ (z : View). is_held x z.held) e ∙ s x ∙ sym (ap (λ (z : View). is_held x z.held) e')

  backed_agree : (rows : List RowData) (ls : List Level) (v v' : View) (p p' : Status) (w w' : View) (n n' : ℕ) → SameKeys v v'
      → Backed rows ls v p w n → Backed rows ls v' p' w' n' → Both p w n p' w' n'
  backed_agree rows [] v v' p p' w w' n n' s a b = (a.0 ∙ sym b.0, a.2 ∙ sym b.2, moved v v' w w' a.1 b.1 s)
  backed_agree rows (l ∷ ls) v v' p p' w w' n n' s (inl a) (inl b) = (a.1 ∙ sym b.1, a.3 ∙ sym b.3, moved v v' w w' a.2 b.2 s)
  backed_agree rows (l ∷ ls) v v' p p' w w' n n' s (inl a) (inr b) = absurd (both_ways (eqb l.left 0) a.0 b.0)
  backed_agree rows (l ∷ ls) v v' p p' w w' n n' s (inr a) (inl b) = absurd (both_ways (eqb l.left 0) b.0 a.0)
  backed_agree rows (l ∷ ls) v v' p p' w w' n n' s (inr a) (inr b) =
      let r = backed_agree rows ls a.1 b.1 p p' w w' a.2 b.2 (keeps_agree v v' (key m rows l.sets) a.1 b.1 s a.3 b.3) a.5 b.5 in
      (r.0, a.4 ∙ ap suc r.1 ∙ sym b.4, r.2)

  -- opening a node, by what it is
  abbrev Opened : List RowData → List Level → View → Node → Status → View → ℕ → Type 0
  Opened rows ls v dead p w n = Backed rows ls v p w n
  Opened rows ls v hit p w n = Backed rows ls v p w n
  Opened rows ls v (solution q) p w n = (p ≡ satisfied q) × (w ≡ v) × (n ≡ 0)
  Opened rows ls v (branch l) p w n = (p ≡ going l ls) × (w ≡ v) × (n ≡ 0)

  opened : {rows : List RowData} {b : List ℕ} {ls : List Level} {v : View} {p : Status} {w : View} {n k : ℕ} → Opens any m rows b ls v p w n k → k ≡ 0
      → Opened rows ls v (node m rows v (below ls) (propagated m rows b)) p w n
  opened {rows} {b} {ls} {v} (Opens.finds p h) e = subst (λ (x : Node). Opened rows ls v x (satisfied p) v 0) (sym h) (refl, refl, refl)
  opened {rows} {b} {ls} {v} (Opens.branches l h) e = subst (λ (x : Node). Opened rows ls v x (going l ls) v 0) (sym h) (refl, refl, refl)
  opened {rows} {b} {ls} {v} (Opens.dies p w n k h B) e = subst (λ (x : Node). Opened rows ls v x p w n) (sym h) (backed B e)
  opened {rows} {b} {ls} {v} (Opens.hits p w n k h B) e = subst (λ (x : Node). Opened rows ls v x p w n) (sym h) (backed B e)

  opened_agree : (rows : List RowData) (ls : List Level) (x : Node) (v v' : View) (p p' : Status) (w w' : View) (n n' : ℕ) → SameKeys v v'
      → Opened rows ls v x p w n → Opened rows ls v' x p' w' n' → Both p w n p' w' n'
  opened_agree rows ls dead v v' p p' w w' n n' s a b = backed_agree rows ls v v' p p' w w' n n' s a b
  opened_agree rows ls hit v v' p p' w w' n n' s a b = backed_agree rows ls v v' p p' w w' n n' s a b
  opened_agree rows ls (solution q) v v' p p' w w' n n' s a b = (a.0 ∙ sym b.0, a.2 ∙ sym b.2, moved v v' w w' a.1 b.1 s)
  opened_agree rows ls (branch l) v v' p p' w w' n n' s a b = (a.0 ∙ sym b.0, a.2 ∙ sym b.2, moved v v' w w' a.1 b.1 s)

  node_agree : (rows : List RowData) (k : ℕ) (b : List ℕ) (v v' : View) → SameKeys v v' → node m rows v k b ≡ node m rows v' k b
  node_agree rows k b v v' s =
      ap (λ (x : Bool).
      elim (some_empty b) [
        | true ↦ dead
        | false ↦
            elim (all_fixed (drop k b)) [ true ↦ solution (values b) | false ↦ elim x [ true ↦ hit | false ↦ branch (level_of k b) ] ]
      ]) (s (key m rows b))

  opens_agree : (rows : List RowData) (b : List ℕ) (ls : List Level) (v v' : View) {p p' : Status} {w w' : View} {n n' k k' : ℕ} → SameKeys v v'
      → Opens any m rows b ls v p w n k → Opens any m rows b ls v' p' w' n' k' → k ≡ 0 → k' ≡ 0 → Both p w n p' w' n'
  opens_agree rows b ls v v' {p} {p'} {w} {w'} {n} {n'} s O O' e e' =
      opened_agree rows ls (node m rows v (below ls) (propagated m rows b)) v v' p p' w w' n n' s (opened O e)
      (subst (λ (x : Node). Opened rows ls v' x p' w' n') (sym (node_agree rows (below ls) (propagated m rows b) v v' s)) (opened O' e'))

  steps_agree : {voices : List ℕ} {rows : List RowData} {x : Status} {v v' : View} {p p' : Status} {w w' : View} {n n' k k' : ℕ} → SameKeys v v'
      → Steps any m voices rows x v p w n k → Steps any m voices rows x v' p' w' n' k' → k ≡ 0 → k' ≡ 0 → Both p w n p' w' n'
  steps_agree {voices} {rows} s (Steps.opens_root v w p n k O) (Steps.opens_root v' w' p' n' k' O') e e' = opens_agree rows voices [] v v' s O O' e e'
  steps_agree {voices} {rows} s (Steps.opens_child l ls v w p n k O) (Steps.opens_child l' ls' v' w' p' n' k' O') e e' =
      opens_agree rows (child l) (taken l ∷ ls) v v' s O O' e e'

  goes_agree : {i i' : ℕ} {t t' : TableData} {v v' : View} {u u' : TableData} {w w' : View} {k k' : ℕ} → OpensNodes any m i t v u w k → OpensNodes any m i' t' v' u' w' k'
      → (b : ℕ) → t ≡ t' → SameKeys v v' → i ≤ b → i' ≤ b → (over u.status ≡ true) ⊎ (i ≡ b) → (over u'.status ≡ true) ⊎ (i' ≡ b) → k ≡ 0 → k' ≡ 0
      → (u ≡ u') × SameKeys w w'
  goes_agree (OpensNodes.stay t v) (OpensNodes.stay t' v') b q s l l' e e' z z' = (q, s)
  goes_agree (OpensNodes.stay t v) (OpensNodes.more i' t' u' v' w' x' p' n' k' j' S' G') b q s l l' e e' z z' =
      elim e [ inl o ↦ absurd (both_ways (over t'.status) (steps_not_over S') (sym (ap (λ (x : TableData). over x.status) q) ∙ o)) | inr o ↦ absurd (omega arith) ]
  goes_agree (OpensNodes.more i t u v w x p n k j S G) (OpensNodes.stay t' v') b q s l l' e e' z z' =
      elim e' [ inl o ↦ absurd (both_ways (over t.status) (steps_not_over S) (ap (λ (x : TableData). over x.status) q ∙ o)) | inr o ↦ absurd (omega arith) ]
  goes_agree (OpensNodes.more i t u v w x p n k j S G) (OpensNodes.more i' t' u' v' w' x' p' n' k' j' S' G') zero q s l l' e e' z z' = absurd (omega arith)
  goes_agree (OpensNodes.more i t u v w x p n k j S G) (OpensNodes.more i' t' u' v' w' x' p' n' k' j' S' G') (suc b) q s l l' e e' z z' =
      let r = steps_agree s S (subst (λ (y : TableData). Steps any m y.voices y.rows y.status v' p' w' n' k') (sym q) S') (omega arith) (omega arith) in
      goes_agree G G' b (λ j. node_more (q j) (r.0 j) (r.1 j)) r.2 (omega arith) (omega arith) (elim e [ inl o ↦ inl o | inr o ↦ inr (omega arith) ]) (elim e' [ inl o ↦ inl o | inr o ↦ inr (omega arith) ])
      (omega arith) (omega arith)

  abbrev number : Judgement → ℕ
  number Judgement.passes = 0
  number (Judgement.refused_under n) = n

  none_held : (w w' : View) → w.held ≡ [] → w'.held ≡ [] → SameKeys w w'
  none_held w w' e e' x = ap (is_held x) (e ∙ sym e')

  does_agree : (t : TableData) (v v' : View) {c : Call} {a a' : Answer} {u u' : TableData} {w w' : View} → SameKeys v v'
      → (D : Does any m t v c a u w) (D' : Does any m t v' c a' u' w') → lost_after D 0 ≡ 0 → lost_after D' 0 ≡ 0
      → (a ≡ a') × (u ≡ u') × SameKeys w w' × ((n : ℕ) → lost_after D n ≡ lost_after D' n)
  does_agree t v v' s (Does.refuses c n j) (Does.refuses c' n' j') z z' = (ap (λ (x : Judgement). Answer.refused (number x)) (sym j ∙ j'), refl, s, λ i. refl)
  does_agree t v v' s (Does.refuses c n j) (Does.declares x' w' j' e') z z' = absurd (not_both j j')
  does_agree t v v' s (Does.refuses c n j) (Does.posts x' w' j' e') z z' = absurd (not_both j j')
  does_agree t v v' s (Does.refuses c n j) (Does.wipes w' e') z z' = absurd (not_both j refl)
  does_agree t v v' s (Does.refuses c n j) (Does.solves b' u' w' k' j' S') z z' = absurd (not_both j j')
  does_agree t v v' s (Does.refuses c n j) (Does.reads b' p' j' e') z z' = absurd (not_both j j')
  does_agree t v v' s (Does.declares x w j e) (Does.refuses c n j') z z' = absurd (not_both j' j)
  does_agree t v v' s (Does.declares x w j e) (Does.declares x' w' j' e') z z' = (refl, refl, none_held w w' e e', λ i. refl)
  does_agree t v v' s (Does.posts x w j e) (Does.refuses c n j') z z' = absurd (not_both j' j)
  does_agree t v v' s (Does.posts x w j e) (Does.posts x' w' j' e') z z' = (refl, refl, none_held w w' e e', λ i. refl)
  does_agree t v v' s (Does.wipes w e) (Does.refuses c n j') z z' = absurd (not_both j' refl)
  does_agree t v v' s (Does.wipes w e) (Does.wipes w' e') z z' = (refl, refl, none_held w w' e e', λ i. refl)
  does_agree t v v' s (Does.solves b u w k j S) (Does.refuses c n j') z z' = absurd (not_both j' j)
  does_agree t v v' s (Does.solves b u w k j S) (Does.solves b' u' w' k' j' S') z z' =
      let r = goes_agree S.goes S'.goes b refl s S.inside S'.inside S.ends S'.ends (omega (arith, z)) (omega (arith, z')) in
      (ap (λ (x : TableData). status_answer x.status) r.0, r.0, r.1, λ i. omega (arith, z, z'))
  does_agree t v v' s (Does.reads b p j e) (Does.refuses c n j') z z' = absurd (not_both j' j)
  does_agree t v v' s (Does.reads b p j e) (Does.reads b' p' j' e') z z' =
      (ap (λ (x : Status). Answer.wrote (length (result x)) (result x ++ drop (length (result x)) b)) (sym e ∙ e'), refl, s, λ i. refl)

pub stores_agree : (m : Meaning) (t : TableData) (v v' : View) (c : Call) (a a' : Answer) (u u' : TableData) (w w' : View) → SameKeys v v'
    → (D : Does any m t v c a u w) (D' : Does any m t v' c a' u' w') → lost_after D 0 ≡ 0 → lost_after D' 0 ≡ 0
    → (a ≡ a') × (u ≡ u') × SameKeys w w' × ((n : ℕ) → lost_after D n ≡ lost_after D' n)
stores_agree m t v v' c a a' u u' w w' s d d' z z' = does_agree m t v v' s d d' z z'
