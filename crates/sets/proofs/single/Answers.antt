use Rattle.std.proofs.Common.{◌∙◌, arith}
use Rattle.std.proofs.lemmas.Nat.{one_shl}
use Rattle.std.proofs.lemmas.Bool.{ne_eqb}
use Rattle.sets.proofs.Masks.{only_mask, none_mask}
use Rattle.sets.proofs.single.Goals as goal

pub returns-then-value-lt64 : goal.returns-then-value-lt64
returns-then-value-lt64 c = one_shl c.args.value 64 (omega arith) ∙ only_mask c.args.value (omega arith)

pub returns-else-value-lt64 : goal.returns-else-value-lt64
returns-else-value-lt64 c = none_mask _ (λ v l. ne_eqb v c.args.value (λ e. omega arith))
