use Rattle.std.proofs.Common.{◌≡◌, ℕ, List, [], take, sym, subst, ◌∙◌}
use Rattle.std.proofs.lemmas.Slice.Eq.{slice_eq-Decides}
use Rattle.std.proofs.lemmas.Bool.Decides.{Decides-eqb}
use Rattle.rows.specs.declared.limits.TheConstants.{MOST_SHEET}
use Rattle.kinds.specs.FourKinds.{four_kinds}
use Rattle.stores.specs.ShelfLaws.{shelf}
use Rattle.sheets.specs.Reading.{read_sheet}
use Rattle.job.specs.Promised.{Promised}
use Rattle.job.specs.Planned.{Planned}
use Rattle.job.proofs.standard.is_report.Goals as goal

pub returns-clause-promise : goal.returns-clause-promise
returns-clause-promise c e =
    let same = slice_eq-Decides Decides-eqb c.as_slice.result.now c.args.report.now c.eq.result c.eq.ensures in
    subst (Promised four_kinds (read_sheet four_kinds (take MOST_SHEET c.args.sheet.now))) (sym c.as_slice.ensures.value ∙ same.0 e) c.in_ok-text.ensures.promise

pub returns-clause-history : goal.returns-clause-history
returns-clause-history c e =
    let same = slice_eq-Decides Decides-eqb c.as_slice.result.now c.args.report.now c.eq.result c.eq.ensures in
    subst (Planned shelf four_kinds (record { held = []; room = 4096 }) (take MOST_SHEET c.args.sheet.now)) (sym c.as_slice.ensures.value ∙ same.0 e)
    c.in_ok-text.ensures.history
