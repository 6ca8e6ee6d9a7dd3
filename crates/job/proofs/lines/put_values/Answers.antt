use Rattle.std.proofs.Common.{ap}
use Rattle.std.proofs.lemmas.List.{take_all}
use Rattle.rows.proofs.Texts.{wrote_none, same_text}
use Rattle.job.specs.Texts.{value_lines}
use Rattle.job.proofs.Pieces.{value_more}
use Rattle.job.proofs.lines.put_values.Goals as goal

pub loop-voice-init : goal.loop-voice-init
loop-voice-init c = wrote_none c.args.writer.now

pub loop-voice-preserved : goal.loop-voice-preserved
loop-voice-preserved c =
    value_more c.args.values.now c.loop-voice.voice c.from.result c.loop-voice-test.true c.from.ensures c.loop-voice.invariant c.put_value.ensures

pub returns : goal.returns
returns c = same_text (ap (value_lines 0) (take_all c.loop-voice.voice c.args.values.now c.loop-voice-test.false)) c.loop-voice.invariant
