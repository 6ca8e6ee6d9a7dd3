use Rattle.rows.specs.Bytes.{Bytes}
use Rattle.table.specs.Shown.{model}
use Rattle.sheets.proofs.LawsHold.{begins, load_leaves, loads_back}
use Rattle.sheets.proofs.load.load_new.Goals as goal

pub returns : goal.returns
returns g c =
    let bs = c.args.bytes.now in
    let b : Bytes bs = λ i l. (c.type_inv.bytes i).fits in
    let made = begins g.S.Store.behaviour g.B.Bank.meaning c.in_ok-table.ensures in
    record {
      value = c.fill-result.ensures.value;
      leaves = load_leaves g.S.Store.behaviour g.B.Bank.meaning bs c.fill-result.ensures.history made.1 c.fill-result.ensures.after;
      back = loads_back g.B.Bank.meaning g.met.B.Bank.lawful bs b (model c.fill-result.new.table) c.fill-result.ensures.after;
    }
