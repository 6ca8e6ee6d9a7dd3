use Rattle.rows.proofs.Texts.{wrote_two}
use Rattle.job.proofs.lines.put_count.Goals as goal

pub returns : goal.returns
returns c = wrote_two c.put.ensures (wrote_two c.put-2.ensures (wrote_two c.put_number.ensures c.put_end.ensures))
