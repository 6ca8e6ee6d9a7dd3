use Rattle.std.proofs.Common.{◌∙◌}
use Rattle.rows.proofs.Texts.{wrote_two, same_text}
use Rattle.job.proofs.lines.put_outcome.Goals as goal

pub returns : goal.returns
returns c = wrote_two (same_text (c.as_bytes.ensures.value ∙ c.name.ensures) c.put.ensures) c.put_end.ensures
