use Rattle.std.specs.Prelude.{length}
use Rattle.std.proofs.Common.{sym, ◌∙◌}
use Rattle.std.proofs.lemmas.Bool.{both_ways}
use Rattle.rows.proofs.Narrowed.{unchanged}
use Rattle.rows.specs.Views.{row_of}
use Rattle.loose.specs.Loose.{unconstrained}
use Rattle.loose.specs.LooseLaws.{constrained}
use Rattle.loose.proofs.LooseKind.turn.Goals as goal

pub returns-then-not-is_empty-clause-value : goal.returns-then-not-is_empty-clause-value
returns-then-not-is_empty-clause-value c = λ a h.
    absurd (both_ways (unconstrained (row_of c.args.row.now) c.args.sets.now) (constrained (row_of c.args.row.now) c.args.sets.now (length c.args.sets.now) a h) (sym c.is_unconstrained.ensures ∙ c.if-is_unconstrained.true))

pub returns-else-is_unconstrained-clause-value : goal.returns-else-is_unconstrained-clause-value
returns-else-is_unconstrained-clause-value c = λ a h. sym (unchanged c.args.sets.now)
