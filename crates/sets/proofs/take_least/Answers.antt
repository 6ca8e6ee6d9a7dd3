use Rattle.std.proofs.Common.{◌^◌, ◌<◌, arith, rules}
use Rattle.sets.specs.Sets.{least}
use Rattle.std.proofs.lemmas.Nat.{one_shl}
use Rattle.sets.proofs.Membership.{has_at_least, has_least, least_below}
use Rattle.sets.proofs.take_least.Goals as goal

pub overflow_sub-set : goal.overflow_sub-set
overflow_sub-set c =
    let fits : c.args.set.now < 2 ^ 64 = search rules in
    let some : 0 < c.args.set.now = omega arith in
    omega (arith, one_shl (least c.args.set.now) 64 (least_below c.args.set.now some fits), has_at_least c.args.set.now (least c.args.set.now) (has_least c.args.set.now some fits))
