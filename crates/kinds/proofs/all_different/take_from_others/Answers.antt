use Rattle.std.proofs.Common.{◌-◌, ◌^◌, take, sym, refl, ap, ◌∙◌, arith, rules}
use Rattle.std.proofs.lemmas.List.{take_all}
use Rattle.sets.specs.Placings.{changed}
use Rattle.sets.specs.Sets.{fixed, has}
use Rattle.kinds.specs.Differing.{may_stay}
use Rattle.rows.specs.Shared.{at, cuts}
use Rattle.rows.proofs.Cuts.{Small}
use Rattle.rows.proofs.Narrowed.{unchanged}
use Rattle.kinds.proofs.Taking.{open_takes_none, other_more, own_more, flag_more}
use Rattle.kinds.proofs.all_different.take_from_others.Goals as goal
use Rattle.kinds.proofs.all_different.take_from_others.Goals.{then-m-taker, else-m-taker}

pub returns-then-not-is_fixed : goal.returns-then-not-is_fixed
returns-then-not-is_fixed c =
    let small : Small c.args.sets.now = λ i. search rules in
    record {
      after = sym (open_takes_none c.args.taker (at c.args.sets.now c.args.taker) c.args.members.now c.args.sets.now small
          (sym (ap fixed c.set_of-set.ensures) ∙ sym c.if-not-is_fixed.ensures));
      value = sym (unchanged c.args.sets.now);
    }

pub loop-m-init : goal.loop-m-init
loop-m-init c = (refl, sym (unchanged c.args.sets.now))

pub loop-m-preserved : goal.loop-m-preserved
loop-m-preserved c =
    let small : Small c.args.sets.now = λ i. search rules in
    let s = c.args.sets.now in
    let ms = c.args.members.now in
    let m = c.args.taker in
    let i = c.loop-m.m-index in
    elim c.if-m-taker.branch [
      | then-m-taker w ↦ (
        w.sets-is ∙ other_more m ms i c.set_of-set.result s c.loop-m.sets w.keep_only-lost.new.sets small c.loop-m-test.true c.set_of-set.ensures
            (sym c.if-not-is_fixed.ensures) (λ e. omega arith) c.loop-m.invariant.0 w.keep_only-lost.ensures.after,
        w.lost-is ∙ flag_more (may_stay m (at s m)) (take i ms) _ (has (2 ^ 64 - 1 - c.set_of-set.result)) s c.loop-m.sets w.keep_only-lost.new.sets
            c.loop-m.lost w.keep_only-lost.result small c.loop-m.invariant.0 w.keep_only-lost.ensures.after c.loop-m.invariant.1 w.keep_only-lost.ensures.value
            ∙ ap (λ x. changed x s) (sym w.sets-is),
      )
      | else-m-taker w ↦ (
        w.sets-is ∙ own_more m ms i s c.loop-m.sets small c.loop-m-test.true w.if-m-taker.false c.loop-m.invariant.0,
        w.lost-is ∙ c.loop-m.invariant.1 ∙ ap (λ x. changed x s) (sym w.sets-is),
      )
    ]

pub returns : goal.returns
returns c = record {
  after = c.loop-m.invariant.0 ∙ ap (λ l. cuts (may_stay c.args.taker (at c.args.sets.now c.args.taker)) l c.args.sets.now)
      (take_all c.loop-m.m-index c.args.members.now c.loop-m-test.false);
  value = c.loop-m.invariant.1;
}
