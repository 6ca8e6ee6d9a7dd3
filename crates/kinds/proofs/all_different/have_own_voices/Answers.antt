use Rattle.std.proofs.Common.{sym, ◌∙◌}
use Rattle.kinds.proofs.Taking.{voices_on, voices_stop}
use Rattle.kinds.proofs.all_different.have_own_voices.Goals as goal

pub returns-then-is_named : goal.returns-then-is_named
returns-then-is_named c =
    sym (voices_stop c.loop-left.left.now c.is_named.result c.in-len1-up.len_at_least c.is_named.ensures c.if-is_named.true) ∙ c.loop-left.invariant

pub loop-left-preserved : goal.loop-left-preserved
loop-left-preserved c = voices_on c.loop-left.left.now c.is_named.result c.in-len1-up.len_at_least c.is_named.ensures c.if-is_named.false ∙ c.loop-left.invariant
