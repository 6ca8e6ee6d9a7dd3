use Rattle.std.proofs.Common.{take}
use Rattle.rows.specs.Written.{Wrote}
use Rattle.job.specs.Texts.{value_lines}
use Rattle.job.proofs.lines.put_values.Given as goal

abbrev pub invariant-loop-voice : goal.invariant-loop-voice
invariant-loop-voice l = Wrote (value_lines 0 (take l.voice l.values)) l.initial.writer l.writer
