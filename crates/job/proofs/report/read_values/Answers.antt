use Rattle.std.proofs.Common.{◌≤◌, length, arith}
use Rattle.table.specs.Shown.{found_in}
use Rattle.job.proofs.Finding.{found_few, read_found}
use Rattle.job.proofs.report.read_values.Goals as goal

pub shared_ref_as_front-result : goal.shared_ref_as_front-result
shared_ref_as_front-result g c =
    let few : length (found_in c.args.table.now) ≤ length c.args.values.now = omega (arith, found_few c.args.table.now, c.fits-values) in
    let found = read_found c.read.result c.unwrap_or-count.result c.read.new.out c.read.ensures.does c.unwrap_or-count.ensures few in
    omega (arith, found.0, found_few c.args.table.now)

pub returns : goal.returns
returns g c =
    let few : length (found_in c.args.table.now) ≤ length c.args.values.now = omega (arith, found_few c.args.table.now, c.fits-values) in
    (read_found c.read.result c.unwrap_or-count.result c.read.new.out c.read.ensures.does c.unwrap_or-count.ensures few).1
