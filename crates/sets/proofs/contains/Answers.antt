use Rattle.std.proofs.Common.{◌^◌, ◌<◌, sym, ◌∙◌, arith, rules}
use Rattle.std.proofs.lemmas.Bool.{le-ltb}
use Rattle.sets.proofs.Membership.{has_above}
use Rattle.sets.proofs.Masks.{bit_has}
use Rattle.sets.proofs.contains.Goals as goal

pub returns-then-value-lt64 : goal.returns-then-value-lt64
returns-then-value-lt64 c = bit_has c.args.set c.args.value

pub returns-else-value-lt64 : goal.returns-else-value-lt64
returns-else-value-lt64 c =
    let fits : c.args.set < 2 ^ 64 = search rules in
    le-ltb c.args.value 64 (omega arith) ∙ sym (has_above 64 c.args.set c.args.value fits (omega arith))
