use Rattle.rows.specs.Views.{row_of}
use Rattle.kinds.specs.Sums.{high, placed}
use Rattle.kinds.proofs.Adding.{Summed}
use Rattle.kinds.proofs.linear.sums.Given as goal

abbrev pub invariant-loop-m : goal.invariant-loop-m
invariant-loop-m l = Summed (high l.sets) (row_of l.row).members l.m-index l.greatest × Summed (placed l.sets) (row_of l.row).members l.m-index l.placed
