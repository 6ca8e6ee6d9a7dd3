-- What the result of `run_round` means.
use Rattle.std.specs.Prelude.{ℕ, Bool, true, false, Option, Some, None}
use Rattle.search.specs.declared.propagation.RoundEnd.{RoundEnd}
use Rattle.search.specs.declared.propagation.RoundEnd.TheVariants.{Emptied, Settled, Due}

-- whether another round is due, and from which row on none changed the sets that were left
abbrev pub due_of : RoundEnd → Option ℕ
due_of Emptied = None
due_of Settled = None
due_of (Due k) = Some k

-- whether a turn emptied a set
abbrev pub is_emptied : RoundEnd → Bool
is_emptied Emptied = true
is_emptied Settled = false
is_emptied (Due k) = false
