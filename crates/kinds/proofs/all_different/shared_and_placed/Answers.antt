use Rattle.std.proofs.Common.{sym, ap, ◌∙◌}
use Rattle.std.proofs.lemmas.List.{take_all}
use Rattle.kinds.specs.Differing.{fixed_values}
use Rattle.rows.proofs.Cuts.{Small}
use Rattle.kinds.proofs.Sharing.{seen_none, seen_more, seen_all}
use Rattle.kinds.proofs.Taking.{used_none, used_fixed, used_open}
use Rattle.kinds.proofs.all_different.shared_and_placed.Goals as goal
use Rattle.kinds.proofs.all_different.shared_and_placed.Goals.{then-is_fixed, else-is_fixed}

pub loop-m-init : goal.loop-m-init
loop-m-init c = (used_none c.args.sets.now, seen_none c.args.sets.now)

pub loop-m-preserved : goal.loop-m-preserved
loop-m-preserved c =
    let ms = c.args.members.now in
    let s = c.args.sets.now in
    let i = c.loop-m.m-index in
    let k = c.set_of-set.result in
    let small : Small s = λ i. (c.type_inv.sets i).fits in (
      elim c.if-is_fixed.branch [
        | then-is_fixed w ↦ w.placed-is
            ∙ used_fixed ms i k c.loop-m.placed s small c.loop-m-test.true c.loop-m.invariant.0 c.set_of-set.ensures (sym c.is_fixed.ensures ∙ w.if-is_fixed.true)
        | else-is_fixed w ↦ w.placed-is
            ∙ used_open ms i k c.loop-m.placed s small c.loop-m-test.true c.loop-m.invariant.0 c.set_of-set.ensures (sym c.is_fixed.ensures ∙ w.if-is_fixed.false)
      ],
      seen_more ms s i k c.loop-m.once c.loop-m.shared small c.loop-m-test.true c.set_of-set.ensures c.loop-m.invariant.1,
    )

pub returns : goal.returns
returns c = record {
  shared = seen_all c.args.members.now c.args.sets.now c.loop-m.m-index c.loop-m.once c.loop-m.shared c.loop-m-test.false c.loop-m.invariant.1;
  placed = c.loop-m.invariant.0 ∙ ap (λ l. fixed_values l c.args.sets.now) (take_all c.loop-m.m-index c.args.members.now c.loop-m-test.false);
}
