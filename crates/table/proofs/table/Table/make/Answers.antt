use Rattle.std.proofs.Common.{vec_items}
use Rattle.table.proofs.Calling.{made_by}
use Rattle.table.proofs.table.Table.make.Goals as goal

pub returns : goal.returns
returns g c =
    made_by g.S.Store.behaviour g.B.Bank.meaning (vec_items c.in_ok-voices.voices) c.in_ok-search.search (g.S.Store.state c.args.store) (g.S.Store.state c.clear.new.self) 0
    c.in_ok-voices.ensures.items c.in_ok-search.ensures c.clear.ensures
