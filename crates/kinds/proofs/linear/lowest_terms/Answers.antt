use Rattle.std.proofs.Common.{◌≡◌, ◌<◌, length, get_or, ap, ◌∙◌, arith, length-set, sym, refl, take_all, rules, w32, w64, to_z, of_z}
use Rattle.rows.specs.Views.{row_of}
use Rattle.std.specs.List.{list_all}
use Rattle.kinds.specs.Sums.{low, high}
use Rattle.kinds.proofs.Slacks.{reaches, widest_more}
use Rattle.rows.proofs.Scans.{nobody}
use Rattle.kinds.proofs.Adding.{few_members, back_half, summed_fits, summed_more, summed_all}
use Rattle.kinds.proofs.Passes.{filled_more, filled_all, near_zeros, near_more}
use Rattle.kinds.proofs.linear.lowest_terms.Goals as goal

pub loop-i-init : goal.loop-i-init
loop-i-init c = (refl, refl, (refl, record { above = search rules; below = search rules }), refl, near_zeros 32)

pub overflow_add-sum : goal.overflow_add-sum
overflow_add-sum c =
    let h : c.loop-i.i < length (row_of c.args.row.now).members = omega (arith, c.loop-i-test.true, ap length c.members-m-items.ensures) in
    summed_fits c.loop-i.i _ c.ends-low.result.0 (omega (arith, few_members c.args.row.now)) c.loop-i.invariant.2.1 c.ends-low.ensures.low_near

pub loop-i-preserved : goal.loop-i-preserved
loop-i-preserved c =
    let f = few_members c.args.row.now in
    let i = c.loop-i.i in
    let ms = (row_of c.args.row.now).members in
    let s = c.args.sets.now in
    let h : i < length ms = omega (arith, c.loop-i-test.true, ap length c.members-m-items.ensures) in
    let value = c.ends-low.ensures.low ∙ ap (λ l. low s (get_or l i nobody)) c.members-m-items.ensures in
    let upper = c.ends-low.ensures.high ∙ ap (λ l. high s (get_or l i nobody)) c.members-m-items.ensures in
    let stored = to_z w32 (of_z w32 (to_z w64 (of_z w64 c.ends-low.result.0))) in
    let same = back_half 2097152 c.ends-low.result.0 (omega arith) c.ends-low.ensures.low_near in (
      length-set c.loop-i.lows i stored ∙ c.loop-i.invariant.0,
      filled_more (low s) ms c.loop-i.lows i stored nobody h (omega (arith, c.loop-i.invariant.0)) c.loop-i.invariant.1 (same ∙ value),
      summed_more (low s) ms i nobody _ c.ends-low.result.0 h f c.loop-i.invariant.2 value c.ends-low.ensures.low_near,
      widest_more s ms i nobody _ c.ends-low.result.1 c.ends-low.result.0 c.max-widest.result h (record { sfits = c.max-widest.type_inv }) c.loop-i.invariant.3 upper value
          c.ends-low.ensures.high_near c.ends-low.ensures.low_near c.max-widest.ensures,
      near_more 2097152 c.loop-i.lows i stored (rw same c.ends-low.ensures.low_near) c.loop-i.invariant.4,
    )

pub returns : goal.returns
returns c =
    let i = c.loop-i.i in
    let ms = (row_of c.args.row.now).members in
    let s = c.args.sets.now in
    let same = ap length c.members-m-items.ensures in
    let all : i ≡ length ms = omega (arith, c.loop-i.auto.i-end, c.loop-i-test.false) in
    let sums = summed_all (low s) ms i _ (omega arith) (omega arith) (few_members c.args.row.now) c.loop-i.invariant.2 in
    record {
      long = c.loop-i.invariant.0;
      small = c.loop-i.invariant.4;
      terms = filled_all (low s) ms c.loop-i.lows i all c.loop-i.invariant.1;
      sum = sums.0;
      near = sums.1;
      widest = ap (list_all (reaches s _)) (sym (take_all i ms (omega arith))) ∙ c.loop-i.invariant.3;
    }
