-- The status of a search, as memory holds it.
use Rattle.std.specs.Prelude.{ℕ, List, [], ◌∷◌}
use Rattle.sets.specs.Placings.{values}
use Rattle.search.specs.Search.{Level, Status}
use Rattle.search.specs.Search.Status.{fresh, going, satisfied, unsatisfiable}
use Rattle.table.specs.declared.engine.level.End.{End}
use Rattle.table.specs.declared.engine.level.End.TheVariants.{Fresh, Found, Exhausted}

-- with no level; what was found are the values of the sets s
abbrev pub end_status : End → List ℕ → Status
end_status Fresh s = fresh
end_status Found s = satisfied (values s)
end_status Exhausted s = unsatisfiable

-- with these levels
abbrev pub status_at : End → List ℕ → List Level → Status
status_at e s [] = end_status e s
status_at e s (l ∷ ls) = going l ls
