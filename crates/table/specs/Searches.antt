-- What the state of a search says.
use Rattle.std.specs.Prelude.{◌≡◌, ℕ, List, [], vec_items, vec_len}
use Rattle.rows.specs.Rows.{RowData, Meaning}
use Rattle.stores.specs.Behaviours.{Behaviour}
use Rattle.search.specs.Search.{Level, Status}
use Rattle.search.specs.Search.Status.{fresh, going, satisfied, unsatisfiable}
use Rattle.search.specs.Calls.{TableData, OpensNodes, SolveRun}
use Rattle.table.specs.Statuses.{status_at}
use Rattle.table.specs.Stacks.{levels_in}
use Rattle.table.specs.declared.engine.state.Search.{Search}
use Rattle.table.specs.declared.engine.level.End.TheVariants.{Fresh}
use Rattle.table.specs.declared.outcome.Outcome.{Outcome}
use Rattle.table.specs.declared.outcome.Outcome.TheVariants.{Stopped, Found, None}

-- how many voices it has, and the sets of the node that was opened last
abbrev pub voice_count : Search → ℕ
voice_count s = vec_len s.sets

abbrev pub node_sets : Search → List ℕ
node_sets s = vec_items s.sets

-- its levels, newest first, and its status
abbrev pub levels_of : Search → List Level
levels_of s = levels_in s.levels

abbrev pub status_of : Search → Status
status_of s = status_at s.end (vec_items s.sets) (levels_of s)

-- the table with these voices and rows that it searches
abbrev pub table_of : List ℕ → List RowData → Search → TableData
table_of voices rows s = record {
  voices = voices;
  rows = rows;
  status = status_of s;
  opened = s.opened;
  exhausted = s.exhausted;
}

-- a search with n voices that has not begun
pub record FreshSearch (n : ℕ) (s : Search) : Type 0 where
  pub voices : voice_count s ≡ n
  pub no_level : levels_of s ≡ []
  pub fresh_end : s.end ≡ Fresh
  pub none_opened : s.opened ≡ 0
  pub none_exhausted : s.exhausted ≡ 0

-- what a search with this status has come to
abbrev pub outcome_of : Status → Outcome
outcome_of fresh = Stopped
outcome_of (going l ls) = Stopped
outcome_of (satisfied p) = Found
outcome_of unsatisfiable = None

-- n nodes are opened; the store loses some number of keys
pub record NodesRun (b : Behaviour) (m : Meaning) (n : ℕ) (t : TableData) (s : b.State) (u : TableData)
    (r : b.State) : Type 0 where
  pub lost : ℕ
  pub goes : OpensNodes b m n t s u r lost

-- nodes are opened with this budget; the store loses some number of keys
pub record BudgetRun (b : Behaviour) (m : Meaning) (budget : ℕ) (t : TableData) (s : b.State)
    (u : TableData)
    (r : b.State) : Type 0 where
  pub lost : ℕ
  pub run : SolveRun b m budget t s u r lost
