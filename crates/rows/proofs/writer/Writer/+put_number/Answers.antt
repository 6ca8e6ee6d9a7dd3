use Rattle.std.proofs.Common.{◌^◌, ◌<◌, rules}
use Rattle.rows.proofs.Texts.{same_start, wrote_digit, wrote_digits}
use Rattle.rows.proofs.writer.Writer.+put_number.Goals as goal
use Rattle.rows.proofs.writer.Writer.+put_number.Goals.{then-number-ge10, else-number-ge10}

pub returns : goal.returns
returns t c =
    let number = c.args.number in
    let fits : c.args.number < 2 ^ 64 = search rules in
    elim c.if-number-ge10.branch [
      | then-number-ge10 w ↦ wrote_digits number w.if-number-ge10.true fits w.put_number.ensures (same_start w.self-is c.put.ensures)
      | else-number-ge10 w ↦ wrote_digit number w.if-number-ge10.false (same_start w.self-is c.put.ensures)
    ]
