use Rattle.std.proofs.Common.{◌≡◌, ◌+◌, vec_len}
use Rattle.rows.specs.Views.{rows_of}
use Rattle.table.specs.Stacks.{levels_in}
use Rattle.table.proofs.Backing.{Behind}
use Rattle.table.proofs.engine.levels.Levels.back_up.Given as goal

abbrev pub invariant-loop-keys : goal.invariant-loop-keys
invariant-loop-keys g l = record {
  width : l.self.width ≡ l.initial.self.width;
  count : l.exhausted + vec_len l.self.records ≡ vec_len l.initial.self.records;
  behind : Behind g.S.Store.behaviour g.B.Bank.meaning (rows_of l.rows) (levels_in l.initial.self) (g.S.Store.state l.initial.store) (levels_in l.self) (g.S.Store.state l.store) l.exhausted;
}

abbrev pub decreases-loop-keys : goal.decreases-loop-keys
decreases-loop-keys g l = vec_len l.self.records
