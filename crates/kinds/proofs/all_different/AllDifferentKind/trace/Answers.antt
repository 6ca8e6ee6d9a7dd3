use Rattle.std.proofs.Common.{◌^◌, ◌<◌, subst, length, sym, ap, ◌∙◌, arith}
use Rattle.rows.specs.Views.{row_of}
use Rattle.sets.proofs.Membership.{ones_all}
use Rattle.kinds.specs.Differing.{fixed_values}
use Rattle.kinds.proofs.Taking.{used_below, trace_settled, trace_open}
use Rattle.kinds.proofs.all_different.AllDifferentKind.trace.Goals as goal

pub overflow_cast-values : goal.overflow_cast-values
overflow_cast-values c = record { fits = omega (arith, ones_all c.shared_and_placed-values.result.1 (subst (λ x. x < 2 ^ 64) (sym c.shared_and_placed-values.ensures.placed) (used_below c.members-members.result.now c.args.sets.now))) }

pub returns-then-values-members : goal.returns-then-values-members
returns-then-values-members c =
    trace_settled (row_of c.args.row.now).members c.args.sets.now c.shared_and_placed-values.result.1 (λ i. (c.type_inv.sets i).fits)
    (c.shared_and_placed-values.ensures.placed ∙ ap (λ l. fixed_values l c.args.sets.now) c.members-members.ensures) (c.if-values-members.true ∙ ap length c.members-members.ensures)

pub returns-else-values-members : goal.returns-else-values-members
returns-else-values-members c =
    trace_open (row_of c.args.row.now).members c.args.sets.now c.shared_and_placed-values.result.1 (λ i. (c.type_inv.sets i).fits)
    (c.shared_and_placed-values.ensures.placed ∙ ap (λ l. fixed_values l c.args.sets.now) c.members-members.ensures)
    (λ e. c.if-values-members.false (e ∙ sym (ap length c.members-members.ensures)))
