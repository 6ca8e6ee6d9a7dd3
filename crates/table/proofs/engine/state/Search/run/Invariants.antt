use Rattle.std.proofs.Common.{◌≡◌, ◌+◌, ◌-◌, ◌≤◌}
use Rattle.rows.specs.Views.{rows_of}
use Rattle.rows.specs.declared.limits.TheConstants.{MOST_OPENED}
use Rattle.table.specs.Searches.{voice_count, table_of, NodesRun}
use Rattle.table.proofs.engine.state.Search.run.Given as goal

abbrev pub invariant-loop : goal.invariant-loop
invariant-loop g l = record {
  few : l.self.opened + (l.budget - l.counter) ≤ MOST_OPENED;
  voices : voice_count l.self ≡ voice_count l.initial.self;
  ran : NodesRun g.S.Store.behaviour g.B.Bank.meaning l.counter (table_of l.voices (rows_of l.rows) l.initial.self) (g.S.Store.state l.initial.store) (table_of l.voices (rows_of l.rows) l.self) (g.S.Store.state l.store);
}
