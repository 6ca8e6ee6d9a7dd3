use Rattle.std.proofs.Common.{◌≡◌, [], ◌∷◌, map, length, take}
use Rattle.rows.specs.Views.{row_of}
use Rattle.kinds.specs.Literals.{literal_member}
use Rattle.kinds.proofs.clause.Clause.row.Given as goal

abbrev pub invariant-loop-literal : goal.invariant-loop-literal
invariant-loop-literal l = row_of l.row ≡ record { letter = 0x43; body = length l.literals ∷ []; members = map literal_member (take l.literal-index l.literals) }
