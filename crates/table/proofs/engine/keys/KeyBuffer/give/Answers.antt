use Rattle.std.proofs.Common.{◌≡◌, ℕ, ◌≤◌, cond, List, length, take, refl, subst, arith}
use Rattle.rows.specs.Views.{rows_of}
use Rattle.stores.specs.Keys.{key}
use Rattle.stores.specs.Stores.{is_held}
use Rattle.stores.specs.declared.store.Stored.TheVariants.{Kept, Lost}
use Rattle.stores.proofs.Writing.{key_length}
use Rattle.table.proofs.Tests.{key_not, key_put}
use Rattle.table.proofs.engine.keys.KeyBuffer.give.Goals as goal

pub returns-then-turns_away : goal.returns-then-turns_away
returns-then-turns_away g c =
    let k = key g.B.Bank.meaning (rows_of c.args.rows.now) c.args.sets.now in
    (cond (is_held k (g.S.Store.behaviour.view (g.S.Store.state c.args.store.now)).held) Kept Lost, (c.if-turns_away.ensures refl k (key_length g.B.Bank.meaning c.args.rows.now c.args.sets.now)).may)

pub returns-in_default : goal.returns-in_default
returns-in_default g c =
    let k = key g.B.Bank.meaning (rows_of c.args.rows.now) c.args.sets.now in
    let h : length k ≤ length c.deref_mut.result.now = omega (arith, key_length g.B.Bank.meaning c.args.rows.now c.args.sets.now, c.requires, c.args.self.now.room, c.deref_mut.ensures.len) in
    key_not k c.deref_mut.result.now h c.in_default.ensures.value

pub returns-in-Some : goal.returns-in-Some
returns-in-Some g c =
    let k = key g.B.Bank.meaning (rows_of c.args.rows.now) c.args.sets.now in
    let h : length k ≤ length c.deref_mut.result.now = omega (arith, key_length g.B.Bank.meaning c.args.rows.now c.args.sets.now, c.requires, c.args.self.now.room, c.deref_mut.ensures.len) in
    let e : take c.in-Some.n c.deref.result.now ≡ k = key_put k c.deref_mut.result.now c.args.self.now.words.items h c.deref_mut.ensures.len c.in-Some.ensures.value c.in-Some.ensures.after c.deref.ensures.value in
    (c.keep.result, subst (λ (x : List ℕ). g.S.Store.behaviour.keeps (g.S.Store.state c.args.store.now) x c.keep.result (g.S.Store.state c.keep.new.self)) e c.keep.ensures)
