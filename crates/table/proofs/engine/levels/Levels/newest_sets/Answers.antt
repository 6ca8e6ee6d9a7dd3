use Rattle.std.proofs.Common.{length, ap, ◌∙◌, arith}
use Rattle.table.proofs.Leveled.{newest_read, newest_length}
use Rattle.table.proofs.Stacked.{whole_trail, some_records, below_newest}
use Rattle.table.proofs.engine.levels.Levels.newest_sets.Goals as goal

pub overflow_sub-result : goal.overflow_sub-result
overflow_sub-result c = omega (arith, below_newest c.args.self.now c.requires, c.len.ensures)

pub returns-clause-value : goal.returns-clause-value
returns-clause-value c =
    let s = c.args.self.now in
    newest_read s.width s.trail.items s.records.items c.deref.result.now c.len.result c.deref.ensures.value (c.len.ensures ∙ s.trail.ok.0) (whole_trail s) (some_records s c.requires)

pub returns-clause-width : goal.returns-clause-width
returns-clause-width c =
    let s = c.args.self.now in
    ap length (newest_read s.width s.trail.items s.records.items c.deref.result.now c.len.result c.deref.ensures.value (c.len.ensures ∙ s.trail.ok.0) (whole_trail s) (some_records s c.requires))
    ∙ newest_length s.width s.trail.items s.records.items (whole_trail s) (some_records s c.requires)
