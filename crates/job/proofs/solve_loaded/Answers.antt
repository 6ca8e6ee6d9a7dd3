use Rattle.std.proofs.Common.{Ok, sym, ap, ◌∙◌, subst}
use Rattle.table.specs.Shown.{model, store_in, found_in}
use Rattle.sheets.specs.Reading.{read_sheet}
use Rattle.sheets.specs.Loading.{load_answer}
use Rattle.job.specs.Planned.{JobDone}
use Rattle.job.proofs.Jobs.{sheet_solved}
use Rattle.job.proofs.solve_loaded.Goals as goal

pub returns : goal.returns
returns g c = λ given sheet value leaves.
    let st = g.S.Store.behaviour in
    let m = g.B.Bank.meaning in
    let t = c.args.table.now in
    let u = c.solve.new.self in
    let done = sheet_solved st m g.met.B.Bank.lawful given sheet (read_sheet m sheet) (model t) (model u) (store_in t) (store_in u) c.solve.result (found_in u)
    (sym (ap load_answer c.in_ok-answer.was) ∙ value) leaves.table leaves.history c.solve.ensures.does in
    subst (λ o. JobDone st m given sheet (read_sheet m sheet) (Ok o) (model u) (store_in u)) (sym c.unwrap_or.ensures) done
