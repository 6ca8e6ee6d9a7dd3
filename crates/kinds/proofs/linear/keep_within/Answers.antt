use Rattle.std.proofs.Common.{◌≡◌, ◌≤ℤ◌, pos, ◌*ℤ◌, sym, ap, ap₂, ◌∙◌, arith, rules, w16, w64, SFits}
use lib.Signed.{le_z}
use Rattle.std.proofs.lemmas.Int.{ints, to_z-of_z}
use Rattle.sets.specs.Sets.{has, mask}
use Rattle.sets.proofs.Membership.{has_mask}
use Rattle.rows.proofs.Cuts.{Small}
use Rattle.rows.proofs.Narrowed.{unchanged, cut_kept, cut_same}
use Rattle.kinds.specs.Sums.{term, high}
use Rattle.kinds.proofs.Slacks.{all_pass}
use Rattle.kinds.proofs.linear.keep_within.Goals as goal

pub returns-then-highest-slack-clause-after : goal.returns-then-highest-slack-clause-after
returns-then-highest-slack-clause-after c =
    let small : Small c.args.sets.now = search rules in
    let le : high c.args.sets.now c.args.member ≤ℤ c.args.slack = omega (arith, ints, c.if-highest-slack.true, c.highest.ensures.value, c.ranges.slack.sfits) in
    sym (cut_kept c.args.member.voice _ c.args.sets.now small (λ v e. all_pass c.args.sets.now c.args.member c.args.slack v small le e))

pub returns-then-highest-slack-clause-value : goal.returns-then-highest-slack-clause-value
returns-then-highest-slack-clause-value c = sym (unchanged c.args.sets.now)

pub returns-clause-after : goal.returns-clause-after
returns-clause-after c =
    let m = c.args.member in
    let fits : SFits w16 m.argument = search rules in
    let kept : c.values_within.result ≡ mask 64 (λ v. le_z (term m v) c.args.slack) =
    c.values_within.ensures ∙ ap₂ (λ x y. mask 64 (λ v. le_z (x *ℤ pos v) y)) (to_z-of_z w16 m.argument fits) (to_z-of_z w64 c.args.slack c.ranges.slack)
    in
    c.keep_only.ensures.after
    ∙ cut_same m.voice (has c.values_within.result) (λ v. le_z (term m v) c.args.slack) c.args.sets.now
    (λ v l. ap (λ x. has x v) kept ∙ has_mask 64 (λ v. le_z (term m v) c.args.slack) v l)
