use Rattle.std.proofs.Common.{◌≡◌, nat_abs, rules}
use Rattle.kinds.proofs.LiteralSteps.{true_values_but}
use Rattle.kinds.proofs.clause.true_values.Goals as goal

pub returns-else-argument-lt64 : goal.returns-else-argument-lt64
returns-else-argument-lt64 c =
    let size : c.from-argument.result ≡ nat_abs c.args.literal.argument = search rules in
    true_values_but c.args.literal c.from-argument.result c.single-else-argument-lt64.result size c.if-argument-lt64.false c.single-else-argument-lt64.ensures
