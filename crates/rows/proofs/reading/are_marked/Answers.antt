use Rattle.std.proofs.Common.{◌∙◌, arith, ltb-false, ltb-true}
use Rattle.rows.proofs.Readings.{marked_more}
use Rattle.rows.proofs.reading.are_marked.Goals as goal

pub loop-left-preserved : goal.loop-left-preserved
loop-left-preserved c = marked_more c.loop-left.left.now (omega (arith, ltb-true, ltb-false)) (omega arith) ∙ c.loop-left.invariant
