-- What a stack of levels says.
use Rattle.std.specs.Prelude.{◌≡◌, ℕ, List, [], vec_items}
use Rattle.search.specs.Search.{Level}
use Rattle.table.specs.Levels.{levels_at}
use Rattle.table.specs.declared.engine.levels.Levels.{Levels}

-- the levels, newest first
abbrev pub levels_in : Levels → List Level
levels_in l = levels_at l.width (vec_items l.trail) (vec_items l.records)

-- no levels; those to come have n sets
pub record Cleared (n : ℕ) (l : Levels) : Type 0 where
  pub width : l.width ≡ n
  pub no_level : levels_in l ≡ []
