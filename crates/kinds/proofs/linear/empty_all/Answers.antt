use Rattle.std.proofs.Common.{false, sym, refl, rules}
use Rattle.sets.proofs.Membership.{has_none}
use Rattle.sets.specs.Sets.{has}
use Rattle.rows.proofs.Cuts.{Small}
use Rattle.rows.proofs.Narrowed.{unchanged}
use Rattle.rows.proofs.Scans.{nobody}
use Rattle.kinds.proofs.Passes.{cut_more}
use Rattle.kinds.proofs.linear.empty_all.Goals as goal

pub loop-m-init : goal.loop-m-init
loop-m-init c = (refl, sym (unchanged c.args.sets.now))

pub loop-m-preserved : goal.loop-m-preserved
loop-m-preserved c =
    let s = c.args.sets.now in
    let small : Small s = λ k. search rules in
    cut_more (λ m v. false) c.args.members.now c.loop-m.m-index nobody s c.loop-m.sets c.keep_only-took.new.sets (has 0) c.loop-m.took c.keep_only-took.result small c.loop-m-test.true c.loop-m.invariant
    has_none c.keep_only-took.ensures.after c.keep_only-took.ensures.value
