use Rattle.std.proofs.Common.{refl}
use Rattle.rows.specs.Bytes.{Bytes}
use Rattle.search.specs.Histories.{History}
use Rattle.table.specs.Shown.{model, store_in}
use Rattle.sheets.proofs.Steps.{wiped}
use Rattle.sheets.proofs.LawsHold.{load_leaves, load_extends, loads_back}
use Rattle.sheets.proofs.load.load.Goals as goal

pub fill-requires : goal.fill-requires
fill-requires g c =
    let t = c.args.table.now in
    let u = c.wipe.new.self in
    let d = c.wipe.ensures.does in
    (wiped g.S.Store.behaviour g.B.Bank.meaning (model t) (model u) (store_in t) (store_in u) d).0

pub returns : goal.returns
returns g c =
    let st = g.S.Store.behaviour in
    let m = g.B.Bank.meaning in
    let L = g.met.B.Bank.lawful in
    let bs = c.args.bytes.now in
    let t = c.args.table.now in
    let emptied = c.wipe.new.self in
    let u = c.fill.new.table in
    let b : Bytes bs = λ i l. (c.type_inv.bytes i).fits in
    let d = c.wipe.ensures.does in
    let empties = (wiped st m (model t) (model emptied) (store_in t) (store_in emptied) d).1 in
    record {
      value = c.fill.ensures.value;
      after = load_leaves st m bs c.fill.ensures.history (History.made (store_in emptied) empties, refl) c.fill.ensures.after;
      back = loads_back m L bs b (model u) c.fill.ensures.after;
      history = load_extends st m bs c.fill.ensures.history empties (model t);
    }
