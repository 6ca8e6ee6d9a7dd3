use Rattle.std.proofs.Common.{◌≡◌, map, ℕ, length, get_or, take, pos, true}
use Rattle.std.specs.List.{list_all}
use Rattle.rows.specs.Views.{row_of}
use Rattle.kinds.specs.Sums.{low, Near}
use Rattle.kinds.proofs.Adding.{Summed}
use Rattle.kinds.proofs.Slacks.{reaches}
use Rattle.kinds.proofs.linear.lowest_terms.Given as goal

abbrev pub invariant-loop-i : goal.invariant-loop-i
invariant-loop-i l =
    (length l.lows ≡ 32) × (take l.i l.lows ≡ map (low l.sets) (take l.i (row_of l.row).members)) × Summed (low l.sets) (row_of l.row).members l.i l.sum
    × (list_all (reaches l.sets l.widest) (take l.i (row_of l.row).members) ≡ true)
    × ((k : ℕ) → Near 2097152 (get_or l.lows k (pos 0)))
