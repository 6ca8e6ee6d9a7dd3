use Rattle.rows.proofs.RowBytes.{row_same}
use Rattle.rows.proofs.writer.written_is_encoded.Goals as goal

pub returns : goal.returns
returns c = row_same
