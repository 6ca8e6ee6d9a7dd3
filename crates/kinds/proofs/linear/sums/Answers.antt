use Rattle.std.proofs.Common.{◌≡◌, ◌^◌, ◌<◌, ◌≤◌, length, get_or, ap, sym, ◌∙◌, arith}
use Rattle.sets.specs.Sets.{fixed}
use Rattle.rows.specs.Shared.{at}
use Rattle.rows.specs.Views.{row_of}
use Rattle.rows.proofs.Scans.{nobody}
use Rattle.kinds.specs.Sums.{high, placed}
use Rattle.kinds.proofs.Adding.{few_members, summed_fits, summed_more, summed_on, summed_all, placed_fixed, placed_open}
use Rattle.kinds.proofs.linear.sums.Goals as goal
use Rattle.kinds.proofs.linear.sums.Goals.{then-is_fixed, else-is_fixed}

pub overflow_add-greatest : goal.overflow_add-greatest
overflow_add-greatest c =
    let h : c.loop-m.m-index < length (row_of c.args.row.now).members = omega (arith, c.loop-m-test.true, ap length c.members-m-items.ensures) in
    summed_fits c.loop-m.m-index _ c.highest-term.result (omega (arith, few_members c.args.row.now)) c.loop-m.invariant.0.1 c.highest-term.ensures.near

pub overflow_add-placed : goal.overflow_add-placed
overflow_add-placed c =
    let h : c.loop-m.m-index < length (row_of c.args.row.now).members = omega (arith, c.loop-m-test.true, ap length c.members-m-items.ensures) in
    summed_fits c.loop-m.m-index _ c.highest-term.result (omega (arith, few_members c.args.row.now)) c.loop-m.invariant.1.1 c.highest-term.ensures.near

pub loop-m-preserved : goal.loop-m-preserved
loop-m-preserved c =
    let s = c.args.sets.now in
    let ms = (row_of c.args.row.now).members in
    let i = c.loop-m.m-index in
    let h : i < length ms = omega (arith, c.loop-m-test.true, ap length c.members-m-items.ensures) in
    let value = c.highest-term.ensures.value ∙ ap (λ l. high s (get_or l i nobody)) c.members-m-items.ensures in
    let m = get_or ms i nobody in
    let small : at s m < 2 ^ 64 = (c.type_inv.sets m.voice).fits in
    let here : fixed (at s m) ≡ c.is_fixed.result = ap (λ l. fixed (at s (get_or l i nobody))) (sym c.members-m-items.ensures) ∙ ap fixed (sym c.set_of.ensures) ∙ sym c.is_fixed.ensures in (
      summed_more (high s) ms i nobody _ c.highest-term.result h (few_members c.args.row.now) c.loop-m.invariant.0 value c.highest-term.ensures.near,
      elim c.if-is_fixed.branch [
        | then-is_fixed w ↦ rw w.placed-is (summed_more (placed s) ms i nobody _ c.highest-term.result h (few_members c.args.row.now) c.loop-m.invariant.1
            (value ∙ placed_fixed s m small (here ∙ w.if-is_fixed.true)) c.highest-term.ensures.near)
        | else-is_fixed w ↦ rw w.placed-is (summed_on (placed s) ms i nobody _ h (placed_open s m (here ∙ w.if-is_fixed.false)) c.loop-m.invariant.1)
      ],
    )

pub returns : goal.returns
returns c =
    let ms = (row_of c.args.row.now).members in
    let same = ap length c.members-m-items.ensures in
    let i = c.loop-m.m-index in
    let low : i ≤ length ms = omega (arith, c.loop-m.auto.m-index-end) in
    let high : length ms ≤ i = omega (arith, c.loop-m-test.false) in
    let few = few_members c.args.row.now in
    let greatest = summed_all _ ms i _ low high few c.loop-m.invariant.0 in
    let placed = summed_all _ ms i _ low high few c.loop-m.invariant.1 in
    record { greatest = greatest.0; placed = placed.0; near = placed.1 }
