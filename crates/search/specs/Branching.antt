-- Where the search branches: on the lowest voice that is not fixed.
use Rattle.std.specs.Prelude.{◌≡◌, ℕ, ◌<◌, true, false, ◌↔◌, List, [], ◌∷◌, length, slice_index}
use Rattle.sets.specs.Sets.{fixed}
use Rattle.sets.specs.Placings.{some_empty, all_fixed, values}
use Rattle.rows.specs.Rows.{RowData, Meaning}
use Rattle.stores.specs.Stores.{View}
use Rattle.search.specs.Propagation.{propagated}
use Rattle.search.specs.Search.{Status, Level, Node, Lowest, below, node, child, taken}
use Rattle.search.specs.Calls.{TableData}

-- the voice k is above that of the newest of these levels
abbrev pub AboveNewest : ℕ → List Level → Type 0
AboveNewest k [] = Unit {0}
AboveNewest k (l ∷ ls) = l.voice < k

-- With n voices, each level branches on the lowest voice of its sets that is not fixed, and these
-- voices ascend strictly: a level's is above that of the level before it.
abbrev pub Ascending : ℕ → List Level → Type 0
Ascending n [] = Unit {0}
Ascending n (l ∷ ls) =
    (length l.sets ≡ n) × Lowest l.sets l.voice × AboveNewest l.voice ls × Ascending n ls

-- the voices of the levels ascend strictly, and each is one of its node's
abbrev pub Rising : List Level → Type 0
Rising [] = Unit {0}
Rising (l ∷ ls) = AboveNewest l.voice ls × (l.voice < length l.sets) × Rising ls

-- What a node with the sets s is, once propagated, below the levels ls. Its voices below `below ls`
-- are fixed; so to look only at the others is to look at all: it is a solution exactly when all its
-- sets are fixed, and otherwise, if it branches, it does so on the lowest voice that is not.
pub record NodeLowest (m : Meaning) (rows : List RowData) (v : View) (ls : List Level)
    (s : List ℕ) : Type 0 where
  pub passed : some_empty (propagated m rows s) ≡ false → (j : ℕ) → j < below ls
      → fixed (slice_index (propagated m rows s) j) ≡ true
  pub same : node m rows v (below ls) (propagated m rows s) ≡ node m rows v 0 (propagated m rows s)
  pub solution_exactly : (p : List ℕ)
      → (node m rows v (below ls) (propagated m rows s) ≡ Node.solution p)
      ↔ ((some_empty (propagated m rows s) ≡ false)
      × (all_fixed (propagated m rows s) ≡ true)
      × (p ≡ values (propagated m rows s)))
  pub branch_lowest : (l : Level) → node m rows v (below ls) (propagated m rows s) ≡ Node.branch l
      → (l.sets ≡ propagated m rows s) × Lowest l.sets l.voice
      × (l.left ≡ slice_index l.sets l.voice)

-- a table's levels, and the node that is opened next
pub record TableLowest (m : Meaning) (t : TableData) (v : View) : Type 0 where
  pub levels : (l : Level) (ls : List Level) → t.status ≡ Status.going l ls
      → Ascending (length t.voices) (l ∷ ls)
  pub root : t.status ≡ Status.fresh → NodeLowest m t.rows v [] t.voices
  pub next : (l : Level) (ls : List Level) → t.status ≡ Status.going l ls
      → NodeLowest m t.rows v (taken l ∷ ls) (child l)
