use Rattle.std.proofs.Common.{◌≡◌, ◌+◌, ◌-◌, ◌*◌, ◌∷◌, [], ap, ◌∙◌, arith}
use Rattle.rows.specs.Traces.{mark_word, content_word}
use Rattle.stores.proofs.Writing.{traces_more}
use Rattle.stores.proofs.key.write_traces.Goals as goal

pub loop-i-preserved : goal.loop-i-preserved
loop-i-preserved g c =
    let two : 2 * c.loop-i.i + 2 - 2 * c.loop-i.i ≡ 2 = omega arith in
    traces_more g.B.Bank.meaning c.args.sets.now c.args.rows.now c.loop-i.i c.index-rows-i.result c.args.words.now c.loop-i.words c.copy_from_slice.new.self
    (2 * c.loop-i.i + 2 - 2 * c.loop-i.i) c.loop-i-test.true c.index-rows-i.is two
    (c.copy_from_slice.ensures.after ∙ c.words.ensures ∙ ap (λ t. mark_word t ∷ (content_word t ∷ [])) c.trace.ensures) c.loop-i.invariant
