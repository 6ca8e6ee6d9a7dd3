-- What the results of the code on a node mean.
use Rattle.std.specs.Prelude.{◌≡◌, ℕ, ◌<◌, ◌≤◌, true, List, length, drop, slice_index, Option, Some, None}
use Rattle.sets.specs.Placings.{values, all_fixed, Proper}
use Rattle.search.specs.Search as search
use Rattle.search.specs.Search.Node.{dead, solution, hit, branch}
use Rattle.table.specs.declared.engine.node.NodeClass.{NodeClass}
use Rattle.table.specs.declared.engine.node.NodeClass.TheVariants.{Dead, Solution, Hit, Branch}

-- a node with the propagated sets s
abbrev pub node_of : NodeClass → List ℕ → search.Node
node_of Dead s = dead
node_of Solution s = solution (values s)
node_of Hit s = hit
node_of (Branch v) s = branch (record { sets = s; voice = v; left = slice_index s v })

-- the voice that a node branches on is one of its own, from k on, and has a value; and no set is
-- empty
abbrev pub Branches : NodeClass → ℕ → List ℕ → Type 0
Branches Dead k s = Unit {0}
Branches Solution k s = Unit {0}
Branches Hit k s = Unit {0}
Branches (Branch v) k s = (k ≤ v) × (v < length s) × (0 < slice_index s v) × Proper s

-- the first voice from k on that is not fixed, or none where all are fixed
abbrev pub FirstOpen : ℕ → List ℕ → Option ℕ → Type 0
FirstOpen k s None = all_fixed (drop k s) ≡ true
FirstOpen k s (Some v) = (v ≡ search.first_open k (drop k s)) × (v < length s)
