use Rattle.std.proofs.Common.{ap}
use Rattle.table.specs.Shown.{model, store_in}
use Rattle.sheets.proofs.Steps.{wiped}
use Rattle.sheets.proofs.LawsHold.{Filled, answers, leaves, extends}
use Rattle.sheets.proofs.load.fill.Goals as goal

pub returns : goal.returns
returns g c =
    let st = g.S.Store.behaviour in
    let m = g.B.Bank.meaning in
    let L = g.met.B.Bank.lawful in
    let bs = c.args.bytes.now in
    let s = c.read_records-result.new.table in
    let u = c.wipe_refused.new.table in
    let filled : Filled st m bs (store_in c.args.table.now) (model s) (store_in s) c.read_records-result.result (model u) (store_in u) = record {
      read = c.read_records-result.ensures;
      refused = λ e. let d = c.wipe_refused.ensures.refused e in wiped st m (model s) (model u) (store_in s) (store_in u) d;
      accepted = λ e. let same = c.wipe_refused.ensures.accepted e in (ap model same, ap store_in same);
    } in
    record { value = answers st m L bs filled; after = leaves st m L bs filled; history = extends st m L bs filled }
