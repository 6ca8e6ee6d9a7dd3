use Rattle.std.proofs.Common.{codes, ap}
use Rattle.rows.proofs.Texts.{wrote_two, same_text}
use Rattle.job.specs.Texts.{count_line, value_lines}
use Rattle.job.proofs.report.write_searched.Goals as goal

pub returns : goal.returns
returns g c =
    let opened = same_text (ap (count_line (codes "opened")) c.opened-opened.ensures) c.put_count.ensures in
    let exhausted = same_text (ap (count_line (codes "exhausted")) c.exhausted-exhausted.ensures) c.put_count-2.ensures in
    let values = same_text (ap (value_lines 0) c.read_values.ensures) c.put_values.ensures in
    wrote_two c.put_outcome.ensures (wrote_two opened (wrote_two exhausted values))
