use Rattle.std.proofs.Common.{take, arith, sym, ◌∙◌, subst}
use Rattle.std.proofs.lemmas.Result.{IfOk-weaker}
use Rattle.table.specs.Shown.{model, store_in}
use Rattle.sheets.specs.Reading.{read_sheet}
use Rattle.job.specs.Promised.{Promised}
use Rattle.job.specs.Planned.{Planned}
use Rattle.job.proofs.Jobs.{sheet_front}
use Rattle.job.proofs.plan.Goals as goal

pub returns-clause-promise : goal.returns-clause-promise
returns-clause-promise g c =
    let m = g.B.Bank.meaning in
    let sheet = c.args.sheet.now in
    let n = c.min-length.result in
    let l = c.in_ok-table.ensures in
    let s = c.solve_loaded-come_to.ensures (g.S.Store.state c.args.store) (take n sheet) l.value l.leaves in
    IfOk-weaker c.to_vec.result _ _ (λ text h.
    subst (λ x. Promised m (read_sheet m x) text.items) (sheet_front sheet n (omega (arith, c.min-length.ensures)))
    (subst (Promised m (read_sheet m (take n sheet))) (sym (h (λ x y e. e) ∙ c.written_report.ensures)) s.promised)) c.to_vec.ensures.items_if_clones_equal

pub returns-clause-history : goal.returns-clause-history
returns-clause-history g c =
    let st = g.S.Store.behaviour in
    let m = g.B.Bank.meaning in
    let sheet = c.args.sheet.now in
    let n = c.min-length.result in
    let u = c.solve_loaded-come_to.new.table in
    let given = g.S.Store.state c.args.store in
    let l = c.in_ok-table.ensures in
    let s = c.solve_loaded-come_to.ensures given (take n sheet) l.value l.leaves in
    IfOk-weaker c.to_vec.result _ _ (λ text h.
    subst (λ x. Planned st m given x text.items) (sheet_front sheet n (omega (arith, c.min-length.ensures)))
    (record {
      table = model u;
      state = store_in u;
      lost = s.lost;
      history = s.history;
      invariant = s.invariant;
      reported = h (λ x y e. e) ∙ c.written_report.ensures ∙ s.reported;
    })) c.to_vec.ensures.items_if_clones_equal
