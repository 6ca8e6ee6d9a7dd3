use Rattle.std.proofs.Common.{ℕ, List, length, Some, Ok, Err, ap, ◌∙◌, subst}
use Rattle.std.proofs.lemmas.Result.{err_from_is_err_and}
use Rattle.search.specs.Calls.{fresh_table, judged}
use Rattle.search.specs.Calls.Call.{post}
use Rattle.table.specs.Shown.{model, store_in}
use Rattle.sheets.specs.Reading.{if_passes}
use Rattle.sheets.specs.Reading.RecordReading.{reads_row}
use Rattle.sheets.specs.Loading.{RecordRead}
use Rattle.sheets.proofs.Steps.{row_posted, row_refused}
use Rattle.sheets.proofs.load.read_row_record.Goals as goal

pub returns-in_err-post : goal.returns-in_err-post
returns-in_err-post g c =
    let m = g.B.Bank.meaning in
    let t = c.args.table.now in
    let u = c.post.new.self in
    let v = store_in t in
    let w = store_in u in
    let r = c.from_residual.result in
    let p = err_from_is_err_and r c.from_residual.ensures.1 in
    let d = c.in_err-post.ensures.does in
    subst (λ (x : List ℕ). RecordRead g.S.Store.behaviour m (model t) v (if_passes (judged m (fresh_table (model t).voices (model t).rows) (post x)) (reads_row x)) r (model u) w) c.front_row-row.ensures
    (row_refused g.S.Store.behaviour m (model t) (model u) v w c.front_row-row.result.now r c.in_err-post.field-0.0 c.requires (p.1 ∙ ap Err p.2) d)

pub returns : goal.returns
returns g c =
    let m = g.B.Bank.meaning in
    let t = c.args.table.now in
    let u = c.post.new.self in
    let v = store_in t in
    let w = store_in u in
    let d = c.in_ok-post.ensures.does in
    subst (λ (x : List ℕ). RecordRead g.S.Store.behaviour m (model t) v (if_passes (judged m (fresh_table (model t).voices (model t).rows) (post x)) (reads_row x)) (Ok (Some (length c.front_row-row.result.now))) (model u) w)
    c.front_row-row.ensures
    (row_posted g.S.Store.behaviour m (model t) (model u) v w c.front_row-row.result.now d)
