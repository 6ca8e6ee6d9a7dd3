use Rattle.std.proofs.Common.{◌≡◌, ◌<◌, length, get_or, pos, ◌-ℤ◌, ◌≤ℤ◌, ◌<ℤ◌, false, sym, refl, ap, ◌∙◌, subst, arith, take_all, rules}
use lib.Signed.{le_z}
use Rattle.rows.specs.Views.{row_of}
use Rattle.rows.specs.Shared.{cut, cuts}
use Rattle.kinds.specs.Sums.{term, total, low, within, Near}
use Rattle.rows.proofs.Cuts.{Small}
use Rattle.rows.proofs.Narrowed.{unchanged}
use Rattle.rows.proofs.Scans.{nobody}
use Rattle.kinds.proofs.Adding.{half}
use Rattle.kinds.proofs.Passes.{filled_at, cut_more}
use Rattle.kinds.proofs.Slacks.{slack_of, slack_fits, slack_is, spare_is, test_within, none_cut, all_cut, over_bound}
use Rattle.kinds.proofs.linear.LinearKind.turn.Goals as goal

pub loop-i-init : goal.loop-i-init
loop-i-init c = (refl, sym (unchanged c.args.sets.now))

pub overflow_add-spare : goal.overflow_add-spare
overflow_add-spare c =
    let i = c.loop-i.i in
    let s = c.args.sets.now in
    let ms = (row_of c.args.row.now).members in
    let same = c.members-m-items.ensures in
    let here : i < length ms = omega (arith, c.loop-i-test.true, ap length same) in
    let kept = c.from.ensures ∙ half 2097152 (get_or c.lowest_terms-sum.result.0 i (pos 0)) (omega arith) (c.lowest_terms-sum.ensures.small i) in
    let near = subst (Near 2097152) (sym kept) (c.lowest_terms-sum.ensures.small i) in
    slack_fits c.bound-bound.result c.lowest_terms-sum.result.1 c.from.result c.bound-bound.ensures.near c.lowest_terms-sum.ensures.near near

pub loop-i-preserved : goal.loop-i-preserved
loop-i-preserved c =
    let r = row_of c.args.row.now in
    let i = c.loop-i.i in
    let s = c.args.sets.now in
    let ms = r.members in
    let same = c.members-m-items.ensures in
    let here : i < length ms = omega (arith, c.loop-i-test.true, ap length same) in
    let small : Small s = λ k. search rules in
    let m = get_or ms i nobody in
    let b = c.bound-bound.result in
    let t = c.lowest_terms-sum.result.1 in
    let l = c.from.result in
    let kept = c.from.ensures ∙ half 2097152 (get_or c.lowest_terms-sum.result.0 i (pos 0)) (omega arith) (c.lowest_terms-sum.ensures.small i) in
    let near = subst (Near 2097152) (sym kept) (c.lowest_terms-sum.ensures.small i) in
    let own : l ≡ low s m = kept ∙ filled_at (low s) ms c.lowest_terms-sum.result.0 i nobody (pos 0) here c.lowest_terms-sum.ensures.terms in
    let slack = slack_is b t l c.bound-bound.ensures.near c.lowest_terms-sum.ensures.near near in
    cut_more (within r s) ms i nobody s c.loop-i.sets c.keep_within-took.new.sets (λ v. le_z (term m v) (slack_of b t l)) c.loop-i.took c.keep_within-took.result small here c.loop-i.invariant
    (λ v. ap (le_z (term m v)) slack ∙ test_within r s m b t l v c.bound-bound.ensures.value c.lowest_terms-sum.ensures.sum own)
    (c.keep_within-took.ensures.after ∙ ap (λ x. cut (get_or x i nobody).voice (λ v. le_z (term (get_or x i nobody) v) (slack_of b t l)) c.loop-i.sets) same)
    c.keep_within-took.ensures.value

pub returns : goal.returns
returns c =
    let r = row_of c.args.row.now in
    let same = ap length c.members-m-items.ensures in
    record {
      after = c.loop-i.invariant.0 ∙ ap (λ ms. cuts (within r c.args.sets.now) ms c.args.sets.now) (take_all c.loop-i.i r.members (omega (arith, c.loop-i-test.false)));
      value = c.loop-i.invariant.1;
    }

pub returns-then-widest-spare : goal.returns-then-widest-spare
returns-then-widest-spare c =
    let r = row_of c.args.row.now in
    let s = c.args.sets.now in
    let small : Small s = search rules in
    record {
      after = sym (none_cut r s c.lowest_terms-sum.result.2 small
          (subst (λ b. c.lowest_terms-sum.result.2 ≤ℤ (b -ℤ total (low s) r.members)) c.bound-bound.ensures.value
          (subst (λ t. c.lowest_terms-sum.result.2 ≤ℤ (c.bound-bound.result -ℤ t)) c.lowest_terms-sum.ensures.sum
          (spare_is c.bound-bound.result c.lowest_terms-sum.result.1 c.lowest_terms-sum.result.2 c.bound-bound.ensures.near c.lowest_terms-sum.ensures.near (search rules) c.if-widest-spare.true)))
          c.lowest_terms-sum.ensures.widest);
      value = sym (unchanged s);
    }

pub returns-then-sum-bound-clause-after : goal.returns-then-sum-bound-clause-after
returns-then-sum-bound-clause-after c =
    let r = row_of c.args.row.now in
    let s = c.args.sets.now in
    let small : Small s = search rules in
    c.empty_all.ensures.after
    ∙ ap (λ ms. cuts (λ m v. false) ms s) c.members.ensures
    ∙ sym (all_cut r s small
    (subst (λ b. (b -ℤ total (low s) r.members) <ℤ pos 0) c.bound-bound.ensures.value
    (subst (λ t. (c.bound-bound.result -ℤ t) <ℤ pos 0) c.lowest_terms-sum.ensures.sum
    (over_bound c.bound-bound.result c.lowest_terms-sum.result.1 c.bound-bound.ensures.near c.lowest_terms-sum.ensures.near c.if-sum-bound.true))))
