use Rattle.std.proofs.Common.{◌≤◌, Err, Result, sym, ap, ◌∙◌, arith, rules}
use Rattle.std.proofs.lemmas.Result.{err_from_is_err_and}
use Rattle.rows.specs.declared.refusal.RowRefusal.{RowRefusal}
use Rattle.rows.specs.Bytes.{head_length}
use Rattle.rows.specs.Views.{row_of}
use Rattle.rows.proofs.Readings.{layout_passed, layout_right, layout_failed, row_unread, row_read}
use Rattle.rows.proofs.reading.read_row.Goals as goal

pub returns : goal.returns
returns g c =
    let m = g.B.Bank.meaning in
    let bs = c.args.bytes.now in
    let start = c.in_ok-start.start in
    let p = layout_passed m bs start (head_length m bs) c.in_ok-start.ensures in
    record {
      value = sym (layout_right m bs p.0);
      after = row_read m bs start (row_of c.args.row.now) (row_of c.restart.new.self) (row_of c.push_bytes.new.self) (row_of c.push_members.new.row)
          g.met.B.Bank.lawful p.0 p.1 c.restart.ensures c.push_bytes.ensures c.push_members.ensures;
    }

pub returns-in_err-start-clause-value : goal.returns-in_err-start-clause-value
returns-in_err-start-clause-value g c =
    let q = err_from_is_err_and c.from_residual.result c.from_residual.ensures.1 in
    let err : RowRefusal → Result Unit RowRefusal = λ e. Err e in
    q.1 ∙ ap err q.2 ∙ sym (layout_failed g.B.Bank.meaning c.args.bytes.now (head_length g.B.Bank.meaning c.args.bytes.now) c.in_err-start.field-0.0 c.in_err-start.ensures)

pub returns-in_err-start-clause-after : goal.returns-in_err-start-clause-after
returns-in_err-start-clause-after g c =
    row_unread g.B.Bank.meaning c.args.bytes.now (head_length g.B.Bank.meaning c.args.bytes.now) c.in_err-start.field-0.0 (row_of c.args.row.now) c.in_err-start.ensures

pub slice_bounds-push_bytes-count : goal.slice_bounds-push_bytes-count
slice_bounds-push_bytes-count g c =
    let p = layout_passed g.B.Bank.meaning c.args.bytes.now c.in_ok-start.start (head_length g.B.Bank.meaning c.args.bytes.now) c.in_ok-start.ensures in
    omega (arith, p.1)

pub slice_bounds-push_bytes-start : goal.slice_bounds-push_bytes-start
slice_bounds-push_bytes-start g c =
    let p = layout_passed g.B.Bank.meaning c.args.bytes.now c.in_ok-start.start (head_length g.B.Bank.meaning c.args.bytes.now) c.in_ok-start.ensures in
    let one : 1 ≤ c.in_ok-start.start = omega (arith, p.1) in
    search rules

pub slice_bounds-push_bytes-end : goal.slice_bounds-push_bytes-end
slice_bounds-push_bytes-end g c =
    let p = layout_passed g.B.Bank.meaning c.args.bytes.now c.in_ok-start.start (head_length g.B.Bank.meaning c.args.bytes.now) c.in_ok-start.ensures in
    let one : 1 ≤ c.in_ok-start.start = omega (arith, p.1) in
    search rules
