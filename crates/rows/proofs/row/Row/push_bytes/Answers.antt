use Rattle.std.proofs.Common.{◌≤◌, length, vec_items, sym, ◌∙◌, rules}
use Rattle.rows.specs.Views.{row_of}
use Rattle.rows.proofs.Readings.{body_more, body_end}
use Rattle.rows.proofs.row.Row.push_bytes.Goals as goal

pub loop-byte-preserved : goal.loop-byte-preserved
loop-byte-preserved c =
    let short : length (vec_items c.loop-byte.self.body) ≤ 16 = search rules in
    body_more (row_of c.loop-byte.self) (row_of c.push_byte.new.self) c.push_byte.result c.args.bytes.now c.loop-byte.byte-index short c.loop-byte-test.true
    c.push_byte.ensures.value c.push_byte.ensures.after
    ∙ c.loop-byte.invariant

pub returns : goal.returns
returns c =
    let short : length (vec_items c.loop-byte.self.body) ≤ 16 = search rules in
    sym (body_end (row_of c.loop-byte.self) c.args.bytes.now c.loop-byte.byte-index short c.loop-byte-test.false) ∙ c.loop-byte.invariant
