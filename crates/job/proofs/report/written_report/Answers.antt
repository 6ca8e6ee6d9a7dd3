use Rattle.std.proofs.Common.{arith}
use Rattle.job.proofs.Lengths.{sheet_text_fits}
use Rattle.job.proofs.report.written_report.Goals as goal

pub shared_ref_as_front-result : goal.shared_ref_as_front-result
shared_ref_as_front-result g c =
    omega (arith, c.place-length.ensures, c.write_report.ensures.place, c.new-writer.ensures.place, sheet_text_fits c.args.come_to c.args.table.now)
