use Rattle.std.proofs.Common.{◌≡◌, ℕ, ◌-◌, ◌*◌, List, length, take, sym, ap, ◌∙◌, subst, ap₂, arith}
use Rattle.std.proofs.lemmas.List.{length-take-le}
use Rattle.sets.specs.Placings.{Proper}
use Rattle.table.specs.declared.engine.level.LevelRecord.{LevelRecord}
use Rattle.table.specs.Levels.{Voiced, levels_at}
use Rattle.table.proofs.Leveled.{levels_pop, voiced_take}
use Rattle.table.proofs.Filled.{proper_take}
use Rattle.table.proofs.Stacked.{whole_trail, some_records, below_newest}
use Rattle.table.proofs.engine.levels.Levels.pop.Goals as goal

pub overflow_sub-rest : goal.overflow_sub-rest
overflow_sub-rest c = omega (arith, below_newest c.args.self.now c.requires)

pub invariant_of-self : goal.invariant_of-self
invariant_of-self c =
    let s = c.args.self.now in
    let some = some_records s c.requires in
    let e : c.pop.new.self.len ≡ s.records.len - 1 = c.pop.new.self.ok.0 ∙ ap length c.pop.ensures.rest ∙ length-take-le (s.records.len - 1) s.records.items (omega (arith, s.records.ok.0)) in
    record {
      narrow = s.narrow;
      broad = omega (arith, s.broad, c.truncate.ensures.capacity);
      room = omega (arith, s.room, c.pop.ensures.capacity);
      whole = omega (arith, c.truncate.ensures.len, below_newest s c.requires, ap (λ (n : ℕ). n * s.width) e);
      deep = omega (arith, s.deep, e);
      voiced = subst (Voiced s.width) (sym c.pop.ensures.rest) (voiced_take s.width (s.records.len - 1) s.records.items (omega (arith, s.records.ok.0)) s.voiced);
      proper = subst Proper (sym c.truncate.ensures.items) (proper_take _ s.trail.items s.proper);
    }

pub returns-clause-count : goal.returns-clause-count
returns-clause-count c =
    let s = c.args.self.now in
    let some = some_records s c.requires in
    let e : c.pop.new.self.len ≡ s.records.len - 1 = c.pop.new.self.ok.0 ∙ ap length c.pop.ensures.rest ∙ length-take-le (s.records.len - 1) s.records.items (omega (arith, s.records.ok.0)) in
    omega (arith, some, s.records.ok.0)

pub returns-clause-list : goal.returns-clause-list
returns-clause-list c =
    let s = c.args.self.now in
    ap₂ (λ (t : List ℕ) (r : List LevelRecord). levels_at s.width t r)
    (c.truncate.ensures.items ∙ ap (λ (n : ℕ). take (n - s.width) s.trail.items) (c.len.ensures ∙ s.trail.ok.0))
    (c.pop.ensures.rest ∙ ap (λ (n : ℕ). take (n - 1) s.records.items) s.records.ok.0)
    ∙ levels_pop s.width s.trail.items s.records.items (whole_trail s) (some_records s c.requires)
