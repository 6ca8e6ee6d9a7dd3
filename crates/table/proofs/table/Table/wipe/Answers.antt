use Rattle.std.proofs.Common.{[], vec_items}
use Rattle.search.specs.Calls.{Answer}
use Rattle.search.specs.Calls.Call.{wipe}
use Rattle.table.specs.Searches.{table_of}
use Rattle.table.specs.Shown.{model, store_in}
use Rattle.table.proofs.Calling.{extends_by, wipes_by}
use Rattle.table.proofs.table.Table.wipe.Goals as goal

pub returns : goal.returns
returns g c =
    let m = g.B.Bank.meaning in
    let t = c.args.self.now in
    let s = c.restart.new.self in
    let v = store_in t in
    let w = g.S.Store.state c.clear-2.new.self in
    let voices = vec_items c.clear.new.self in
    let d = wipes_by g.S.Store.behaviour m (model t) voices s v w 0 c.clear.ensures.items c.restart.ensures c.clear-2.ensures in
    record { does = d; history = extends_by g.S.Store.behaviour m g.met.B.Bank.lawful (model t) v wipe Answer.done (table_of voices [] s) w tt d }
