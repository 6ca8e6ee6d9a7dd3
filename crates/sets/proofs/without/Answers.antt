use Rattle.std.proofs.Common.{◌^◌, ◌<◌, eqb, ap, ◌∙◌, rules}
use Rattle.sets.specs.Sets.{has}
use Rattle.sets.proofs.Membership.{has_mask}
use Rattle.sets.proofs.Masks.{and_not_sift}
use Rattle.sets.proofs.without.Goals as goal

pub returns : goal.returns
returns c =
    let fits : c.args.set < 2 ^ 64 = search rules in
    and_not_sift c.args.set c.single.result (λ v. eqb v c.args.value) fits c.single.type_inv
    (λ v l. ap (λ x. has x v) c.single.ensures ∙ has_mask 64 (λ w. eqb w c.args.value) v l)
