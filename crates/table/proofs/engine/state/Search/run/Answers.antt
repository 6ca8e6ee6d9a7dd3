use Rattle.std.proofs.Common.{◌+◌, sym, refl, ◌∙◌, inl, inr, arith}
use Rattle.rows.specs.Views.{rows_of}
use Rattle.table.specs.Searches.{table_of}
use Rattle.table.proofs.Searching.{ran_none, ran_then, runs_by}
use Rattle.table.proofs.engine.state.Search.run.Goals as goal

pub loop-init : goal.loop-init
loop-init g c = record {
  few = omega (arith, c.requires.few);
  voices = refl;
  ran = ran_none g.S.Store.behaviour g.B.Bank.meaning (table_of c.args.voices.now (rows_of c.args.rows.now) c.args.self.now) (g.S.Store.state c.args.store.now) 0 refl;
}

pub returns-then-is_over-clause-runs : goal.returns-then-is_over-clause-runs
returns-then-is_over-clause-runs g c =
    runs_by g.S.Store.behaviour g.B.Bank.meaning c.args.budget c.loop.counter (table_of c.args.voices.now (rows_of c.args.rows.now) c.args.self.now) (g.S.Store.state c.args.store.now)
    (table_of c.args.voices.now (rows_of c.args.rows.now) c.loop.self) (g.S.Store.state c.loop.store)
    (omega arith) c.loop.invariant.ran (inl (sym c.if-is_over.ensures))

pub loop-preserved : goal.loop-preserved
loop-preserved g c = record {
  few = omega (arith, c.loop.invariant.few, c.step.ensures.count);
  voices = c.step.ensures.voices ∙ c.loop.invariant.voices;
  ran = ran_then g.S.Store.behaviour g.B.Bank.meaning c.loop.counter 1 (c.loop.counter + 1)
      (table_of c.args.voices.now (rows_of c.args.rows.now) c.args.self.now) (g.S.Store.state c.args.store.now)
      (table_of c.args.voices.now (rows_of c.args.rows.now) c.loop.self) (g.S.Store.state c.loop.store)
      (table_of c.args.voices.now (rows_of c.args.rows.now) c.step.new.self) (g.S.Store.state c.step.new.store)
      refl c.loop.invariant.ran c.step.ensures.goes;
}

pub returns-clause-runs : goal.returns-clause-runs
returns-clause-runs g c =
    runs_by g.S.Store.behaviour g.B.Bank.meaning c.args.budget c.loop.counter (table_of c.args.voices.now (rows_of c.args.rows.now) c.args.self.now) (g.S.Store.state c.args.store.now)
    (table_of c.args.voices.now (rows_of c.args.rows.now) c.loop.self) (g.S.Store.state c.loop.store)
    (omega arith) c.loop.invariant.ran (inr (omega arith))
