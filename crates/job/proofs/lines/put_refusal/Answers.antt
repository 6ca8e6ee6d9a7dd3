use Rattle.std.proofs.Common.{decimal, ap, ◌∙◌}
use Rattle.rows.proofs.Texts.{wrote_two, same_text}
use Rattle.sheets.specs.Causes.{layer_name}
use Rattle.job.proofs.lines.put_refusal.Goals as goal

pub returns : goal.returns
returns c =
    let number = same_text (ap decimal (c.from.ensures ∙ c.number.ensures)) c.put_number.ensures in
    let name = same_text (c.as_bytes.ensures.value ∙ c.name.ensures ∙ ap layer_name c.layer.ensures) c.put-4.ensures in
    wrote_two c.put.ensures (wrote_two number (wrote_two c.put-2.ensures (wrote_two c.put_number-2.ensures (wrote_two c.put-3.ensures (wrote_two name c.put_end.ensures)))))
