use Rattle.std.proofs.Common.{List, sym, ap, ◌∙◌}
use Rattle.rows.specs.declared.member.Member.{Member}
use Rattle.kinds.specs.Literals.{may_hold, units}
use Rattle.std.specs.List.{filter}
use Rattle.rows.proofs.Narrowed.{unchanged}
use Rattle.rows.proofs.Scans.{nobody}
use Rattle.kinds.proofs.LiteralSteps.{none_unit, one_unit, several_unit}
use Rattle.kinds.proofs.clause.ClauseKind.turn.Goals as goal

pub returns-in_default-clause-after : goal.returns-in_default-clause-after
returns-in_default-clause-after c =
    c.empty_first.ensures.after
    ∙ none_unit c.members-literals.result.now c.args.sets.now c.in_default.ensures
    ∙ ap (λ (l : List Member). units (filter (may_hold c.args.sets.now) l) l c.args.sets.now) c.members-literals.ensures

pub returns-then-not-are_refuted-clause-after : goal.returns-then-not-are_refuted-clause-after
returns-then-not-are_refuted-clause-after c =
    several_unit c.members-literals.result.now nobody c.args.sets.now c.in-Some.first c.are_refuted.result c.in-Some.ensures c.are_refuted.ensures c.if-not-are_refuted.true
    ∙ ap (λ (l : List Member). units (filter (may_hold c.args.sets.now) l) l c.args.sets.now) c.members-literals.ensures

pub returns-then-not-are_refuted-clause-value : goal.returns-then-not-are_refuted-clause-value
returns-then-not-are_refuted-clause-value c = sym (unchanged c.args.sets.now)

pub returns-clause-after : goal.returns-clause-after
returns-clause-after c =
    c.keep_only.ensures.after
    ∙ one_unit c.members-literals.result.now nobody c.args.sets.now c.in-Some.first c.true_values.result c.are_refuted.result c.in-Some.ensures c.are_refuted.ensures c.if-not-are_refuted.false c.true_values.ensures
    ∙ ap (λ (l : List Member). units (filter (may_hold c.args.sets.now) l) l c.args.sets.now) c.members-literals.ensures
