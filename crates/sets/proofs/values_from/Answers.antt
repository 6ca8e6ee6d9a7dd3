use Rattle.std.proofs.Common.{◌-◌, ◌^◌, ap, ◌∙◌, arith}
use Rattle.std.proofs.lemmas.Nat.{one_shl}
use Rattle.std.proofs.lemmas.Bool.{lt-leb}
use Rattle.sets.proofs.Masks.{from_mask, none_mask}
use Rattle.sets.proofs.values_from.Goals as goal

pub returns-then-value-lt64 : goal.returns-then-value-lt64
returns-then-value-lt64 c =
    ap (λ x. 2 ^ 64 - 1 - (x - 1)) (one_shl c.args.value 64 (omega arith)) ∙ from_mask c.args.value (omega arith)

pub returns-else-value-lt64 : goal.returns-else-value-lt64
returns-else-value-lt64 c = none_mask _ (λ v l. lt-leb c.args.value v (omega arith))
