use Rattle.std.proofs.Common.{◌≡◌, ℕ, ◌+◌, ◌*◌, Bool, cond, List, ◌++◌, length, get_or, sym, ap, ◌∙◌, subst, ap₂, suc-mul, arith}
use Rattle.sets.specs.Placings.{Proper}
use Rattle.table.specs.declared.engine.level.LevelRecord.{LevelRecord}
use Rattle.table.specs.Levels.{Voiced, levels_at}
use Rattle.table.proofs.Leveled.{levels_push, voiced_push}
use Rattle.table.proofs.Filled.{proper_append}
use Rattle.table.proofs.Stacked.{whole_trail, roomy}
use Rattle.table.proofs.engine.levels.Levels.push.Goals as goal

pub invariant_of-self : goal.invariant_of-self
invariant_of-self c =
    let s = c.args.self.now in
    let r = roomy s c.args.voice c.requires.above (omega (arith, c.requires.inside, c.requires.width)) in
    let ok = c.extend_from_slice.ensures.succeeds (omega (arith, r.room, c.requires.width)) in
    let long : c.extend_from_slice.new.self.len ≡ s.trail.len + length c.args.sets.now =
    c.extend_from_slice.ensures.len ∙ ap (λ (b : Bool). cond b (s.trail.len + length c.args.sets.now) s.trail.len) ok in
    let trail : c.extend_from_slice.new.self.items ≡ s.trail.items ++ c.args.sets.now =
    c.extend_from_slice.ensures.items ∙ ap (λ (b : Bool). cond b (s.trail.items ++ c.args.sets.now) s.trail.items) ok in
    record {
      narrow = s.narrow;
      broad = omega (arith, s.broad, c.extend_from_slice.ensures.capacity);
      room = omega (arith, s.room, c.push_reserved.ensures.capacity);
      whole = omega (arith, long, s.whole, c.push_reserved.ensures.len, c.requires.width, suc-mul s.records.len s.width, ap (λ (n : ℕ). n * s.width) c.push_reserved.ensures.len);
      deep = omega (arith, r.fewer, c.push_reserved.ensures.len);
      voiced = subst (Voiced s.width) (sym c.push_reserved.ensures.items)
          (voiced_push s.width s.records.items (record { voice = c.args.voice; left = get_or c.args.sets.now c.args.voice 0 }) r.above (omega (arith, c.requires.inside, c.requires.width)) s.voiced);
      proper = subst Proper (sym trail) (proper_append s.trail.items c.args.sets.now s.proper c.requires.proper);
    }

pub returns-clause-list : goal.returns-clause-list
returns-clause-list c =
    let s = c.args.self.now in
    let r = roomy s c.args.voice c.requires.above (omega (arith, c.requires.inside, c.requires.width)) in
    let ok = c.extend_from_slice.ensures.succeeds (omega (arith, r.room, c.requires.width)) in
    let trail : c.extend_from_slice.new.self.items ≡ s.trail.items ++ c.args.sets.now =
    c.extend_from_slice.ensures.items ∙ ap (λ (b : Bool). cond b (s.trail.items ++ c.args.sets.now) s.trail.items) ok in
    ap₂ (λ (t : List ℕ) (x : List LevelRecord). levels_at s.width t x) trail c.push_reserved.ensures.items
    ∙ levels_push s.width s.trail.items c.args.sets.now s.records.items (record { voice = c.args.voice; left = get_or c.args.sets.now c.args.voice 0 }) (whole_trail s) c.requires.width
