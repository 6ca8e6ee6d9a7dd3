-- No key goes to the store twice: when a node is exhausted, its key is not held.
use Rattle.std.proofs.Common.{ℕ, List}
use Rattle.rows.specs.Rows.{RowData, Meaning}
use Rattle.rows.specs.Laws.{Laws}
use Rattle.stores.specs.Keys.{key}
use Rattle.stores.specs.Stores.{View}
use Rattle.search.proofs.AnyStore.{any}
use Rattle.search.specs.Search.{Level, Status, child, BacksUp, Opens, Steps}
use Rattle.search.specs.Calls.{TableData, Call, Answer, OpensNodes}
use Rattle.search.specs.Histories.{History, keys_lost}
use Rattle.search.specs.CallOutcomes.{BacksNew, OpensNew, StepsNew}
use Rattle.search.proofs.Boxes.{narrow_refl}
use Rattle.search.proofs.LevelFacts.{Chain, Unheld, child_chain, unheld_after}
use Rattle.search.proofs.NodeFacts.{Stage, kept_from, lost_from}
use Rattle.search.proofs.HistoryFacts.{fit, goes}

module _ (m : Meaning) (rows : List RowData) (voices : List ℕ) where
  backs_new : {ls : List Level} {v : View} {p : Status} {w : View} {n k : ℕ} (B : BacksUp any m rows ls v p w n k) (box : List ℕ)
      → Chain m rows voices ls box → Unheld m rows v ls → BacksNew B
  backs_new (BacksUp.root_failed v) box c u = tt
  backs_new (BacksUp.value_left l ls v z) box c u = tt
  backs_new (BacksUp.key_kept l ls v w x p n k z K B) box c u =
      let a = kept_from v (key m rows l.sets) w K u.0 in
      let s = c.0 in
      (u.0, backs_new B l.sets c.3 (unheld_after m rows voices ls l.sets l.sets v w c.3 (narrow_refl l.sets) s.proper a.0 u.1))
  backs_new (BacksUp.key_lost l ls v w x p n k z K B) box c u =
      let a = lost_from v (key m rows l.sets) w K in
      let s = c.0 in
      (u.0, backs_new B l.sets c.3 (unheld_after m rows voices ls l.sets l.sets v w c.3 (narrow_refl l.sets) s.proper a.0 u.1))

  opens_new : {s : List ℕ} {ls : List Level} {v : View} {p : Status} {w : View} {n k : ℕ} (O : Opens any m rows s ls v p w n k) (box : List ℕ)
      → Chain m rows voices ls box → Unheld m rows v ls → OpensNew O
  opens_new (Opens.finds p h) box c u = tt
  opens_new (Opens.branches l h) box c u = tt
  opens_new (Opens.dies p w n k h B) box c u = backs_new B box c u
  opens_new (Opens.hits p w n k h B) box c u = backs_new B box c u

  steps_new : {p : Status} {v : View} {q : Status} {w : View} {n k : ℕ} (S : Steps any m voices rows p v q w n k) (o e : ℕ) → Stage m rows voices p v o e → StepsNew S
  steps_new (Steps.opens_root v w p n k O) o e g = opens_new O voices (record { narrow = narrow_refl voices; keeps = λ q y h. y }) tt
  steps_new (Steps.opens_child l ls v w p n k O) o e g = opens_new O (child l) (child_chain m rows voices l ls g.0 g.1).0 g.2

pub never_twice : (m : Meaning) → Laws m → (h : List (Call × Answer)) (t : TableData) (v : View) → {g : View} → History any m g h t v
    → (n j : ℕ) (u : TableData) (w : View) → OpensNodes any m n t v u w j
    → (p : Status) (x : View) (i k : ℕ) (S : Steps any m u.voices u.rows u.status w p x i k) → StepsNew S
never_twice m L h t v H n j u w G p x i k S =
    let f = goes m L G (keys_lost H) (fit m L H) in
    steps_new m u.rows u.voices S u.opened u.exhausted f.stage
