use Rattle.std.proofs.Common.{ℕ, ◌+◌, List, sym, refl, ◌∙◌, subst, arith}
use Rattle.rows.specs.Views.{rows_of}
use Rattle.search.specs.Search.{Level}
use Rattle.stores.specs.Keys.{key}
use Rattle.table.specs.Levels.{KeyGiven}
use Rattle.table.specs.Stacks.{levels_in}
use Rattle.table.proofs.Backing.{Behind, behind_more, backed}
use Rattle.table.proofs.engine.levels.Levels.back_up.Goals as goal

pub loop-keys-smaller : goal.loop-keys-smaller
loop-keys-smaller g c = omega (arith, c.pop.ensures.count)

pub loop-keys-preserved : goal.loop-keys-preserved
loop-keys-preserved g c =
    let m = g.B.Bank.meaning in
    let rows = rows_of c.args.rows.now in
    let start = levels_in c.args.self.now in
    let v = g.S.Store.state c.args.store.now in
    let w = g.S.Store.state c.loop-keys.store in
    let x = g.S.Store.state c.give.new.store in
    let given = subst (λ (y : List ℕ). KeyGiven g.S.Store.behaviour w (key m rows y) x) c.newest_sets.ensures.value c.give.ensures in
    record {
      width = c.pop.ensures.width ∙ c.loop-keys.invariant.width;
      count = omega (arith, c.pop.ensures.count, c.loop-keys.invariant.count);
      behind = subst (λ (y : List Level). Behind g.S.Store.behaviour m rows start v y x (c.loop-keys.exhausted + 1)) (sym c.pop.ensures.list)
          (behind_more g.S.Store.behaviour m rows start v (levels_in c.loop-keys.self) w x c.loop-keys.exhausted (c.loop-keys.exhausted + 1) given.0
          (sym c.is_spent.ensures ∙ c.loop-keys-test.true) refl given.1 c.loop-keys.invariant.behind);
    }

pub returns-clause-backs : goal.returns-clause-backs
returns-clause-backs g c =
    backed g.S.Store.behaviour g.B.Bank.meaning (rows_of c.args.rows.now) (levels_in c.args.self.now) (g.S.Store.state c.args.store.now) (levels_in c.loop-keys.self) (g.S.Store.state c.loop-keys.store) c.loop-keys.exhausted
    (sym c.is_spent.ensures ∙ c.loop-keys-test.false) c.loop-keys.invariant.behind
