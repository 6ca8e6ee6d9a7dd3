-- What a node is, by the tests in the code's order.
use Rattle.std.proofs.Common.{◌≡◌, ℕ, zero, suc, ◌+◌, ◌<◌, ◌≤◌, Bool, true, false, not, cond, Option, Some, None, ◌&&◌, eqb, List, [], ◌∷◌, length, get_or, drop, sym, refl, ap, ◌∙◌, subst, ap₂, ◌⊎◌, inl, inr, arith, length-drop}
use Rattle.std.specs.List.{prefix_len, position}
use Rattle.std.proofs.lemmas.Bool.{or_parts, eqb-false, ltb-true, ltb-false}
use Rattle.sets.specs.Sets.{fixed}
use Rattle.sets.specs.Placings.{some_empty, all_fixed, values}
use Rattle.rows.specs.Rows.{RowData, Meaning}
use Rattle.stores.specs.Keys.{key}
use Rattle.stores.specs.Stores.{View, is_held}
use Rattle.stores.specs.Behaviours.{Behaviour}
use Rattle.search.specs.Propagation.{propagated}
use Rattle.search.specs.Search.{Level, Node, Status, BacksUp, Opens, node, below, first_open, level_of}
use Rattle.search.specs.Search.Node.{dead, solution, hit, branch}
use Rattle.table.specs.declared.engine.level.End.{End}
use Rattle.table.specs.declared.engine.level.End.TheVariants.{Found, Exhausted}
use Rattle.table.specs.Levels.{next_levels, status_backed_up, Backed}
use Rattle.table.specs.Statuses.{status_at}
use Rattle.table.specs.Nodes.{node_of}
use Rattle.table.specs.declared.engine.node.NodeClass as code
use Rattle.table.specs.declared.engine.node.NodeClass.TheVariants.{Dead, Hit}

-- the place of the first set that is not fixed, and whether there is one
record FoundOpen (k : ℕ) (xs : List ℕ) (v : ℕ) (a : Bool) : Type 0 where
  pub from : k ≤ v
  pub none : k + length xs ≤ v → a ≡ true
  pub some : v < k + length xs → a ≡ false

open_by : (k : ℕ) (x : ℕ) (xs : List ℕ) (b : Bool) → FoundOpen (suc k) xs (first_open (suc k) xs) (all_fixed xs)
    → FoundOpen k (x ∷ xs) (elim b [ true ↦ first_open (suc k) xs | false ↦ k ]) (b && all_fixed xs)
open_by k x xs true r = record { from = omega (arith, r.from); none = λ h. r.none (omega arith); some = λ h. r.some (omega arith) }
open_by k x xs false r = record { from = omega arith; none = λ h. absurd (omega arith); some = λ h. refl }

opened : (k : ℕ) (xs : List ℕ) → FoundOpen k xs (first_open k xs) (all_fixed xs)
opened k [] = record { from = omega arith; none = λ h. refl; some = λ h. absurd (omega arith) }
opened k (x ∷ xs) = open_by k x xs (fixed x) (opened (suc k) xs)

pub open_from : (k : ℕ) (s : List ℕ) (v : ℕ) → v ≡ first_open k (drop k s) → k ≤ v
open_from k s v e = omega (arith, (opened k (drop k s)).from, e)

pub none_open : (k : ℕ) (s : List ℕ) (v : ℕ) → v ≡ first_open k (drop k s) → length s ≤ v → all_fixed (drop k s) ≡ true
none_open k s v e h = (opened k (drop k s)).none (omega (arith, length-drop k s, (opened k (drop k s)).from, e))

pub some_open : (k : ℕ) (s : List ℕ) (v : ℕ) → v ≡ first_open k (drop k s) → v < length s → all_fixed (drop k s) ≡ false
some_open k s v e h = (opened k (drop k s)).some (omega (arith, length-drop k s, (opened k (drop k s)).from, e))

-- the same by how many fixed sets stand in front
open_place : (k : ℕ) (xs : List ℕ) → first_open k xs ≡ k + prefix_len (λ x. not (not (fixed x))) xs
open_place k [] = omega arith
open_place k (x ∷ xs) = by (fixed x) (open_place (suc k) xs)
  where
    by : (b : Bool) → first_open (suc k) xs ≡ suc k + prefix_len (λ x. not (not (fixed x))) xs
        → (elim b [ true ↦ first_open (suc k) xs | false ↦ k ]) ≡ k + cond (not (not b)) (1 + prefix_len (λ x. not (not (fixed x))) xs) 0
    by true e = omega (arith, e)
    by false e = omega arith

is_none_by : (b : Bool) (n : ℕ) → ◌≡◌ {A = Option ℕ} None (cond b (Some n) None) → b ≡ false
is_none_by true n e = cc
is_none_by false n e = refl

is_some_by : (b : Bool) (n i : ℕ) → ◌≡◌ {A = Option ℕ} (Some i) (cond b (Some n) None) → (b ≡ true) × (i ≡ n)
is_some_by true n i e = (refl, cc)
is_some_by false n i e = cc

pub position_none : (k : ℕ) (s : List ℕ) → None ≡ position (λ x. not (fixed x)) (drop k s) → all_fixed (drop k s) ≡ true
position_none k s e = none_open k s (first_open k (drop k s)) refl
    (omega (arith, ltb-false _ _ (is_none_by _ _ e), open_place k (drop k s), length-drop k s))

pub position_some : (k : ℕ) (s : List ℕ) (i : ℕ) → k ≤ length s → Some i ≡ position (λ x. not (fixed x)) (drop k s) → (k + i ≡ first_open k (drop k s)) × (k + i < length s)
position_some k s i h e =
    let p = is_some_by _ _ i e in
    (omega (arith, p.1, open_place k (drop k s)), omega (arith, p.1, ltb-true _ _ p.0, length-drop k s))

-- what is said of an equal list t, from an equal place k on
pub found_open : (k : ℕ) (t : List ℕ) (i : ℕ) (s : List ℕ) (v : ℕ) → i ≡ k → s ≡ t → (v ≡ first_open i (drop i s)) × (v < length s) → (v ≡ first_open k (drop k t)) × (v < length t)
found_open k t i s v e f h = (h.0 ∙ ap₂ (λ (j : ℕ) (x : List ℕ). first_open j (drop j x)) e f, omega (arith, h.1, ap length f))

pub not_empty : (s : List ℕ) (i : ℕ) → some_empty s ≡ false → i < length s → 0 < get_or s i 0
not_empty [] i e h = absurd (omega arith)
not_empty (x ∷ s) zero e h = let p = or_parts (eqb x 0) (some_empty s) e in omega (arith, eqb-false x 0 p.0)
not_empty (x ∷ s) (suc i) e h = let p = or_parts (eqb x 0) (some_empty s) e in not_empty s i p.1 (omega arith)

abbrev pick : ℕ → List ℕ → Bool → Bool → Bool → Node
pick k s a f h =
    elim a [ true ↦ dead | false ↦ elim f [ true ↦ solution (values s) | false ↦ elim h [ true ↦ hit | false ↦ branch (level_of k s) ] ] ]

module _ (m : Meaning) (rows : List RowData) (v : View) (k : ℕ) (s : List ℕ) where
  by_tests : (a f h : Bool) → some_empty s ≡ a → all_fixed (drop k s) ≡ f → is_held (key m rows s) v.held ≡ h → node m rows v k s ≡ pick k s a f h
  by_tests a f h p q r =
      ap (λ x. pick k s x (all_fixed (drop k s)) (is_held (key m rows s) v.held)) p
      ∙ ap (λ x. pick k s a x (is_held (key m rows s) v.held)) q
      ∙ ap (λ x. pick k s a f x) r

  pub node_solution : some_empty s ≡ false → all_fixed (drop k s) ≡ true → node m rows v k s ≡ solution (values s)
  node_solution e f = by_tests false true (is_held (key m rows s) v.held) e f refl

  pub node_hit : some_empty s ≡ false → all_fixed (drop k s) ≡ false → is_held (key m rows s) v.held ≡ true → node m rows v k s ≡ hit
  node_hit e f h = by_tests false false true e f h

  pub node_branch : (j : ℕ) → j ≡ first_open k (drop k s) → some_empty s ≡ false → all_fixed (drop k s) ≡ false → is_held (key m rows s) v.held ≡ false
      → node m rows v k s ≡ branch (record { sets = s; voice = j; left = get_or s j 0 })
  node_branch j c e f h = by_tests false false false e f h ∙ ap (λ (x : ℕ). branch (record { sets = s; voice = x; left = get_or s x 0 })) (sym c)

-- ---- opening a node, from what it is

-- the node with the sets s is opened below the levels ls; n levels are exhausted
pub record Opened (st : Behaviour) (m : Meaning) (rows : List RowData) (s : List ℕ) (ls : List Level) (v : st.State) (p : Status) (w : st.State) (n : ℕ) : Type 0 where
  pub lost : ℕ
  pub opens : Opens st m rows s ls v p w n lost

status_spent : (w : List ℕ) (ls : List Level) → status_backed_up ls ≡ status_at Exhausted w ls
status_spent w [] = refl
status_spent w (l ∷ ls) = refl

-- a node that fails
abbrev Fails : Node → Type 0
Fails dead = Unit {0}
Fails (solution p) = ⊥
Fails hit = Unit {0}
Fails (branch l) = ⊥

pub failed : (r : code.NodeClass) (t : List ℕ) → (r ≡ Dead) ⊎ (r ≡ Hit) → Fails (node_of r t)
failed r t (inl e) = subst (λ (x : code.NodeClass). Fails (node_of x t)) (sym e) tt
failed r t (inr e) = subst (λ (x : code.NodeClass). Fails (node_of x t)) (sym e) tt

-- The node with the sets s, which are propagated to t; the voices below k are fixed.
module _ (st : Behaviour) (m : Meaning) (rows : List RowData) (s t : List ℕ) (ls : List Level) (v : st.State) (k : ℕ) where
  at_node : {x : Node} → t ≡ propagated m rows s → k ≡ below (next_levels ls) → node m rows (st.view v) k t ≡ x → node m rows (st.view v) (below (next_levels ls)) (propagated m rows s) ≡ x
  at_node e f h = ap₂ (node m rows (st.view v)) (sym f) (sym e) ∙ h

  opens_failed : (x : Node) (p : Status) (w : st.State) (n j : ℕ) → Fails x → node m rows (st.view v) (below (next_levels ls)) (propagated m rows s) ≡ x → BacksUp st m rows (next_levels ls) v p w n j
      → Opens st m rows s (next_levels ls) v p w n j
  opens_failed dead p w n j f h b = Opens.dies p w n j h b
  opens_failed hit p w n j f h b = Opens.hits p w n j h b
  opens_failed (solution q) p w n j f h b = absurd f
  opens_failed (branch l) p w n j f h b = absurd f

  pub opened_failed : (x : Node) (under : List Level) (w : st.State) (rest : List Level) (y : List ℕ) (n : ℕ) → Fails x → t ≡ propagated m rows s → k ≡ below (next_levels ls) → node m rows (st.view v) k t ≡ x
      → under ≡ next_levels ls → Backed st m rows under v rest w n → Opened st m rows s (next_levels ls) v (status_at Exhausted y rest) w n
  opened_failed x under w rest y n f e g h q b =
      let c : Backed st m rows (next_levels ls) v rest w n = subst (λ a. Backed st m rows a v rest w n) q b in
      record { lost = c.lost; opens = subst (λ p. Opens st m rows s (next_levels ls) v p w n c.lost) (status_spent y rest) (opens_failed x (status_backed_up rest) w n c.lost f (at_node e g h) c.backs) }

  pub opened_solution : (rest : List Level) (y : List ℕ) → t ≡ propagated m rows s → k ≡ below (next_levels ls) → node m rows (st.view v) k t ≡ solution (values t) → rest ≡ [] → y ≡ t
      → Opened st m rows s (next_levels ls) v (status_at Found y rest) v 0
  opened_solution rest y e g h q z =
      subst (λ a. Opened st m rows s (next_levels ls) v (status_at Found y a) v 0) (sym q)
      (subst (λ a. Opened st m rows s (next_levels ls) v (status_at Found a []) v 0) (sym z)
      (record { lost = 0; opens = Opens.finds (values t) (at_node e g h) }))

  pub opened_branch : (l : Level) (rest : List Level) (z : End) (y : List ℕ) → t ≡ propagated m rows s → k ≡ below (next_levels ls) → node m rows (st.view v) k t ≡ branch l → rest ≡ l ∷ next_levels ls
      → Opened st m rows s (next_levels ls) v (status_at z y rest) v 0
  opened_branch l rest z y e g h q =
      subst (λ r. Opened st m rows s (next_levels ls) v (status_at z y r) v 0) (sym q)
      (record { lost = 0; opens = Opens.branches l (at_node e g h) })
