use Rattle.std.proofs.Common.{◌≤◌, length, refl, ap, sym, arith}
use Rattle.rows.specs.Views.{rows_of}
use Rattle.stores.specs.Keys.{key}
use Rattle.stores.specs.Stores.{is_held}
use Rattle.stores.proofs.Writing.{key_length}
use Rattle.table.proofs.Tests.{key_not}
use Rattle.table.proofs.engine.keys.KeyBuffer.find.Goals as goal

pub returns-then-is_empty : goal.returns-then-is_empty
returns-then-is_empty g c =
    sym (ap (is_held (key g.B.Bank.meaning (rows_of c.args.rows.now) c.args.sets.now)) (c.if-is_empty.ensures refl))

pub returns-in-None : goal.returns-in-None
returns-in-None g c =
    let k = key g.B.Bank.meaning (rows_of c.args.rows.now) c.args.sets.now in
    let h : length k ≤ length c.deref_mut.result.now = omega (arith, key_length g.B.Bank.meaning c.args.rows.now c.args.sets.now, c.requires, c.args.self.now.room, c.deref_mut.ensures.len) in
    key_not k c.deref_mut.result.now h c.in-None.ensures.value
