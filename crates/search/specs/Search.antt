-- The search, one node at a time: depth first, with a store of the keys of nodes that have failed.
use Rattle.std.specs.Prelude.{◌≡◌, ℕ, suc, ◌-◌, ◌<◌, true, false, List, [], ◌∷◌, length, drop, ◌==◌, slice_index, slice_set}
use Rattle.sets.specs.Sets.{fixed, least, only}
use Rattle.sets.specs.Placings.{some_empty, all_fixed, values}
use Rattle.rows.specs.Rows.{RowData, Meaning}
use Rattle.stores.specs.Keys.{key}
use Rattle.stores.specs.Stores.{is_held, View}
use Rattle.stores.specs.Behaviours.{Behaviour}
use Rattle.stores.specs.declared.store.Stored.TheVariants.{Kept, Lost}
use Rattle.search.specs.Propagation.{propagated}

-- ---- levels

-- a level, one node with children still to be searched: its propagated sets, the voice that its
-- children fix, and the values that are left to try
pub record Level : Type 0 where
  pub sets : List ℕ
  pub voice : ℕ
  pub left : ℕ

-- The status of a search: its root is not opened yet; a child of the newest level is opened next
-- (the older levels follow, newest first); it has found these values; there is no lawful placing.
pub data Status : Type 0 where
  fresh : Status
  going : Level → List Level → Status
  satisfied : List ℕ → Status
  unsatisfiable : Status

-- ---- the voice that a node branches on

-- the place of the first set that is not fixed, counted from i
abbrev pub first_open : ℕ → List ℕ → ℕ
first_open i [] = i
first_open i (s ∷ sets) = elim (fixed s) [ true ↦ first_open (suc i) sets | false ↦ i ]

-- k is the lowest voice of the sets s that is not fixed
pub record Lowest (s : List ℕ) (k : ℕ) : Type 0 where
  pub inside : k < length s
  pub free : fixed (slice_index s k) ≡ false
  pub before : (j : ℕ) → j < k → fixed (slice_index s j) ≡ true

-- The voices below this one are fixed in every node under these levels: a level's voice is its
-- lowest that is not, and its children fix that one.
abbrev pub below : List Level → ℕ
below [] = 0
below (l ∷ ls) = suc l.voice

-- the level of a node whose voices below k are fixed: it branches on the lowest voice that is not
abbrev pub level_of : ℕ → List ℕ → Level
level_of k s = record {
  sets = s;
  voice = first_open k (drop k s);
  left = slice_index s (first_open k (drop k s));
}

-- ---- nodes

-- what a node is, once its sets are propagated: some set is empty; all voices are fixed, at these
-- values; the store holds its key; it has children
pub data Node : Type 0 where
  dead : Node
  solution : List ℕ → Node
  hit : Node
  branch : Level → Node

-- what a node with the propagated sets s is, where its voices below k are fixed
abbrev pub node : Meaning → List RowData → View → ℕ → List ℕ → Node
node m rows v k s =
    elim (some_empty s) [
      | true ↦ dead
      | false ↦
          elim (all_fixed (drop k s)) [
            | true ↦ solution (values s)
            | false ↦
                elim (is_held (key m rows s) v.held) [ true ↦ hit | false ↦ branch (level_of k s) ]
          ]
    ]

-- the sets of the child that is opened next: the voice is fixed to the least value that is left to
-- try
abbrev pub child : Level → List ℕ
child l = slice_set l.sets l.voice (only (least l.left))

-- the level without that value
abbrev pub taken : Level → Level
taken l = record { sets = l.sets; voice = l.voice; left = l.left - only (least l.left) }

-- ---- one node more

-- Over a store with the behaviour b, which is in the state s before and t afterwards.

-- Backing up (backtracking) from a failed node below these levels: a level with no value left to
-- try is exhausted, and its key goes to the store. It ends with the search's status, the store's
-- state, how many levels were exhausted, and how many keys were lost.
pub data BacksUp (b : Behaviour) (m : Meaning) (rows : List RowData) : List Level → b.State → Status
    → b.State → ℕ → ℕ → Type 0 where
  root_failed : (s : b.State) → BacksUp b m rows [] s unsatisfiable s 0 0
  value_left : (l : Level) (ls : List Level) (s : b.State) → (l.left == 0) ≡ false
      → BacksUp b m rows (l ∷ ls) s (going l ls) s 0 0
  key_kept : (l : Level) (ls : List Level) (s t u : b.State) (q : Status) (n k : ℕ)
      → (l.left == 0) ≡ true
      → b.keeps s (key m rows l.sets) Kept t → BacksUp b m rows ls t q u n k
      → BacksUp b m rows (l ∷ ls) s q u (suc n) k
  key_lost : (l : Level) (ls : List Level) (s t u : b.State) (q : Status) (n k : ℕ)
      → (l.left == 0) ≡ true
      → b.keeps s (key m rows l.sets) Lost t → BacksUp b m rows ls t q u n k
      → BacksUp b m rows (l ∷ ls) s q u (suc n) (suc k)

-- Opening the node with the given sets below the levels ls: it ends with the same four.
pub data Opens (b : Behaviour) (m : Meaning) (rows : List RowData) (sets : List ℕ) (ls : List Level)
    (s : b.State) : Status → b.State → ℕ → ℕ → Type 0 where
  finds : (p : List ℕ) → node m rows (b.view s) (below ls) (propagated m rows sets) ≡ solution p
      → Opens b m rows sets ls s (satisfied p) s 0 0
  branches : (l : Level) → node m rows (b.view s) (below ls) (propagated m rows sets) ≡ branch l
      → Opens b m rows sets ls s (going l ls) s 0 0
  dies : (q : Status) (t : b.State) (n k : ℕ)
      → node m rows (b.view s) (below ls) (propagated m rows sets) ≡ dead
      → BacksUp b m rows ls s q t n k → Opens b m rows sets ls s q t n k
  hits : (q : Status) (t : b.State) (n k : ℕ)
      → node m rows (b.view s) (below ls) (propagated m rows sets) ≡ hit
      → BacksUp b m rows ls s q t n k → Opens b m rows sets ls s q t n k

-- One node: the root, with the opening sets, of a fresh search, or the next child of the newest
-- level.
pub data Steps (b : Behaviour) (m : Meaning) (voices : List ℕ) (rows : List RowData) : Status
    → b.State → Status → b.State → ℕ → ℕ → Type 0 where
  opens_root : (s t : b.State) (q : Status) (n k : ℕ) → Opens b m rows voices [] s q t n k
      → Steps b m voices rows fresh s q t n k
  opens_child : (l : Level) (ls : List Level) (s t : b.State) (q : Status) (n k : ℕ)
      → Opens b m rows (child l) (taken l ∷ ls) s q t n k
      → Steps b m voices rows (going l ls) s q t n k
