use Rattle.std.proofs.Common.{◌≡◌, false, sym, ap, ◌∙◌, subst}
use Rattle.rows.specs.Views.{rows_of}
use Rattle.sets.specs.Placings.{some_empty, Proper}
use Rattle.search.specs.Propagation.{propagated}
use Rattle.search.proofs.PropagationFacts.{propagation_sound}
use Rattle.table.proofs.Openings.{open_from, some_open, not_empty, node_hit, node_branch}
use Rattle.table.proofs.engine.node.classify.Goals as goal

pub returns-then-find-clause-value : goal.returns-then-find-clause-value
returns-then-find-clause-value g c =
    let k = c.args.from in
    let t = c.propagate.new.sets in
    let f = c.in-Some.ensures in
    node_hit g.B.Bank.meaning (rows_of c.args.rows.now) (g.S.Store.behaviour.view (g.S.Store.state c.args.store.now)) k t (sym (c.propagate.ensures.value c.requires.ready) ∙ c.if-propagate.false) (some_open k t c.in-Some.v f.0 f.1) (sym c.if-find.ensures)

pub returns-clause-value : goal.returns-clause-value
returns-clause-value g c =
    let k = c.args.from in
    let t = c.propagate.new.sets in
    let f = c.in-Some.ensures in
    node_branch g.B.Bank.meaning (rows_of c.args.rows.now) (g.S.Store.behaviour.view (g.S.Store.state c.args.store.now)) k t c.in-Some.v f.0 (sym (c.propagate.ensures.value c.requires.ready) ∙ c.if-propagate.false) (some_open k t c.in-Some.v f.0 f.1)
    (sym c.if-find.ensures)

pub returns-clause-branches : goal.returns-clause-branches
returns-clause-branches g c =
    let m = g.B.Bank.meaning in
    let rows = rows_of c.args.rows.now in
    let k = c.args.from in
    let t = c.propagate.new.sets in
    let f = c.in-Some.ensures in
    let ready = c.requires.ready in
    let full : some_empty t ≡ false = sym (c.propagate.ensures.value ready) ∙ c.if-propagate.false in
    let is : t ≡ propagated m rows c.args.sets.now = c.propagate.ensures.after ready in
    let proper = ((propagation_sound m g.met.B.Bank.lawful rows c.args.sets.now ready.accepted ready.proper).ends (sym (ap some_empty is) ∙ full)).0 in
    (open_from k t c.in-Some.v f.0, f.1, not_empty t c.in-Some.v full f.1, subst Proper (sym is) proper)
