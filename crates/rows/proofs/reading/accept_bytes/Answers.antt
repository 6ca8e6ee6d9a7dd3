use Rattle.std.proofs.Common.{Err, Result, sym, ap, ◌∙◌}
use Rattle.std.proofs.lemmas.Result.{err_from_is_err_and}
use Rattle.rows.specs.declared.refusal.RowRefusal.{RowRefusal}
use Rattle.rows.specs.Views.{row_of}
use Rattle.rows.proofs.Readings.{verdict_failed, verdict_refused}
use Rattle.rows.proofs.reading.accept_bytes.Goals as goal

-- an error that a `?` hands on
handed_on : RowRefusal → Result Unit RowRefusal
handed_on e = Err e

pub returns-in_err-read_row-clause-value : goal.returns-in_err-read_row-clause-value
unfolding handed_on
returns-in_err-read_row-clause-value g c =
    let q = err_from_is_err_and c.from_residual.result c.from_residual.ensures.1 in
    q.1 ∙ ap handed_on q.2
    ∙ sym (verdict_failed g.B.Bank.meaning c.args.bytes.now c.args.voices c.in_err-read_row.field-0.0 c.in_err-read_row.ensures.value)

pub returns-in_err-accept-clause-value : goal.returns-in_err-accept-clause-value
unfolding handed_on
returns-in_err-accept-clause-value g c =
    let q = err_from_is_err_and c.from_residual-in_err-accept.result c.from_residual-in_err-accept.ensures.1 in
    q.1 ∙ ap handed_on q.2
    ∙ sym (verdict_refused g.B.Bank.meaning c.args.bytes.now c.args.voices c.in_err-accept.field-0.0 (row_of c.read_row.new.row) (row_of c.args.row.now)
    c.in_ok-read_row.ensures.value c.in_ok-read_row.ensures.after c.in_err-accept.ensures)
