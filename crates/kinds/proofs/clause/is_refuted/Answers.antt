use Rattle.std.proofs.Common.{ℕ, ◌^◌, ◌<◌, eqb, ap, ◌∙◌, rules}
use Rattle.sets.specs.Sets.{sift}
use Rattle.kinds.specs.Literals.{literal_holds}
use Rattle.kinds.proofs.LiteralSteps.{none_in}
use Rattle.kinds.proofs.clause.is_refuted.Goals as goal

pub returns : goal.returns
returns c =
    let fits : c.set_of.result < 2 ^ 64 = search rules in
    none_in c.set_of.result c.true_values.result (literal_holds c.args.literal) fits c.true_values.ensures
    ∙ ap (λ (x : ℕ). eqb (sift (literal_holds c.args.literal) x) 0) c.set_of.ensures
