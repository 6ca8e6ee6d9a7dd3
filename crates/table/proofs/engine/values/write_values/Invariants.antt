use Rattle.std.proofs.Common.{◌≡◌, ◌++◌, take, drop}
use Rattle.sets.specs.Placings.{values}
use Rattle.table.proofs.engine.values.write_values.Given as goal

abbrev pub invariant-loop-i : goal.invariant-loop-i
invariant-loop-i l = l.out ≡ values (take l.i l.sets) ++ drop l.i l.initial.out
