use Rattle.std.proofs.Common.{ℕ, true, false, Ok, Result, sym, ap, ◌∙◌}
use Rattle.rows.specs.declared.refusal.RowRefusal.{RowRefusal}
use Rattle.rows.specs.Bytes.{head_length}
use Rattle.rows.proofs.Readings.{start_marks}
use Rattle.rows.proofs.reading.members_start.Goals as goal

pub returns-then-not-are_marked : goal.returns-then-not-are_marked
returns-then-not-are_marked g c =
    let m = g.B.Bank.meaning in
    let bs = c.args.bytes.now in
    sym (start_marks m bs (Ok (head_length m bs)) c.in_ok-start.field-0 c.in_ok-count.count false
    c.in_ok-start.ensures c.in_ok-count.ensures c.if-bytes-start.false c.if-not-are_marked.ensures).0

pub returns : goal.returns
returns g c =
    let m = g.B.Bank.meaning in
    let bs = c.args.bytes.now in
    let r = start_marks m bs (Ok (head_length m bs)) c.in_ok-start.field-0 c.in_ok-count.count true
    c.in_ok-start.ensures c.in_ok-count.ensures c.if-bytes-start.false c.if-not-are_marked.ensures in
    let ok : ℕ → Result ℕ RowRefusal = λ x. Ok x in
    ap ok r.1 ∙ sym r.0
