use Rattle.rows.proofs.Layouts.{bytes_both_ways}
use Rattle.rows.proofs.bytes.bytes_both_ways.Goals as goal

pub returns : goal.returns
returns c = bytes_both_ways
