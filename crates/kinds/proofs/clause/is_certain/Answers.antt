use Rattle.std.proofs.Common.{ℕ, ◌^◌, ◌<◌, not, eqb, ap, ◌∙◌, rules}
use Rattle.sets.specs.Sets.{sift}
use Rattle.kinds.specs.Literals.{literal_holds}
use Rattle.kinds.proofs.LiteralSteps.{none_out}
use Rattle.kinds.proofs.clause.is_certain.Goals as goal

pub returns : goal.returns
returns c =
    let fits : c.set_of.result < 2 ^ 64 = search rules in
    none_out c.set_of.result c.true_values.result (literal_holds c.args.literal) fits c.true_values.ensures
    ∙ ap (λ (x : ℕ). eqb (sift (λ v. not (literal_holds c.args.literal v)) x) 0) c.set_of.ensures
