use Rattle.std.proofs.Common.{◌≡◌, length, vec_items, ◌∙◌, arith}
use Rattle.std.specs.Vec.{with_items}
use Rattle.std.proofs.lemmas.List.{with_items_is}
use Rattle.rows.specs.Views.{rows_of}
use Rattle.table.specs.Stacks.{levels_in}
use Rattle.table.specs.Searches.{levels_of, node_sets}
use Rattle.table.proofs.Searching.{step_failed, step_found, step_branched}
use Rattle.table.proofs.engine.state.Search.step.Goals as goal

pub returns-in-Dead-clause-goes : goal.returns-in-Dead-clause-goes
returns-in-Dead-clause-goes g c =
    let long : length c.enter_next.new.sets ≡ c.args.self.now.sets.len = omega arith in
    step_failed g.S.Store.behaviour g.B.Bank.meaning c.args.voices.now (rows_of c.args.rows.now) c.args.self.now.end (node_sets c.args.self.now) c.deref_mut-2.result.now c.classify-node.new.sets
    (vec_items (with_items (with_items c.args.self.now.sets c.enter_next.new.sets) c.classify-node.new.sets))
    (levels_of c.args.self.now) (levels_in c.enter_next.new.self) c.args.self.now.opened c.args.self.now.exhausted (g.S.Store.state c.args.store.now) c.fixed_below-from.result
    c.requires.open (c.deref_mut-2.ensures.value ∙ with_items_is c.args.self.now.sets c.enter_next.new.sets long ∙ c.enter_next.ensures.after)
    c.classify-node.ensures.after c.fixed_below-from.ensures.value c.enter_next.ensures.list
    c.classify-node.result (levels_in c.back_up.new.self) (g.S.Store.state c.back_up.new.store) c.back_up.result c.in-Dead.is c.classify-node.ensures.value c.back_up.ensures.backs

pub returns-in-Solution-clause-goes : goal.returns-in-Solution-clause-goes
returns-in-Solution-clause-goes g c =
    let long : length c.enter_next.new.sets ≡ c.args.self.now.sets.len = omega arith in
    let long2 : length c.classify-node.new.sets ≡ c.args.self.now.sets.len = omega arith in
    step_found g.S.Store.behaviour g.B.Bank.meaning c.args.voices.now (rows_of c.args.rows.now) c.args.self.now.end (node_sets c.args.self.now) c.deref_mut-2.result.now c.classify-node.new.sets
    (vec_items (with_items (with_items c.args.self.now.sets c.enter_next.new.sets) c.classify-node.new.sets))
    (levels_of c.args.self.now) (levels_in c.enter_next.new.self) c.args.self.now.opened c.args.self.now.exhausted (g.S.Store.state c.args.store.now) c.fixed_below-from.result
    c.requires.open (c.deref_mut-2.ensures.value ∙ with_items_is c.args.self.now.sets c.enter_next.new.sets long ∙ c.enter_next.ensures.after)
    c.classify-node.ensures.after c.fixed_below-from.ensures.value c.enter_next.ensures.list
    (levels_in c.clear.new.self) c.in-Solution.ensures.value c.clear.ensures.no_level
    (with_items_is (with_items c.args.self.now.sets c.enter_next.new.sets) c.classify-node.new.sets long2)

pub returns-in-Branch-clause-goes : goal.returns-in-Branch-clause-goes
returns-in-Branch-clause-goes g c =
    let long : length c.enter_next.new.sets ≡ c.args.self.now.sets.len = omega arith in
    let long2 : length c.classify-node.new.sets ≡ c.args.self.now.sets.len = omega arith in
    step_branched g.S.Store.behaviour g.B.Bank.meaning c.args.voices.now (rows_of c.args.rows.now) c.args.self.now.end (node_sets c.args.self.now) c.deref_mut-2.result.now c.classify-node.new.sets
    (vec_items (with_items (with_items c.args.self.now.sets c.enter_next.new.sets) c.classify-node.new.sets))
    (levels_of c.args.self.now) (levels_in c.enter_next.new.self) c.args.self.now.opened c.args.self.now.exhausted (g.S.Store.state c.args.store.now) c.fixed_below-from.result
    c.requires.open (c.deref_mut-2.ensures.value ∙ with_items_is c.args.self.now.sets c.enter_next.new.sets long ∙ c.enter_next.ensures.after)
    c.classify-node.ensures.after c.fixed_below-from.ensures.value c.enter_next.ensures.list
    c.in-Branch.v (levels_in c.push.new.self) c.deref.result.now c.in-Branch.ensures.value
    (c.deref.ensures.value ∙ with_items_is (with_items c.args.self.now.sets c.enter_next.new.sets) c.classify-node.new.sets long2) c.push.ensures.list
