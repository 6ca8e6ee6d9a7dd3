use Rattle.std.proofs.Common.{◌≡◌, ◌≢◌, ◌^◌, ◌<◌, refl, length, set, sym, ap, ◌∙◌, subst, arith, rules}
use Rattle.sets.specs.Sets.{least, only}
use Rattle.sets.proofs.Masks.{only_mask}
use Rattle.sets.specs.Placings.{Proper}
use Rattle.table.specs.declared.engine.level.LevelRecord.{LevelRecord}
use Rattle.table.specs.Levels.{newest_sets}
use Rattle.table.specs.Stacks.{levels_in}
use Rattle.table.proofs.Leveled.{some_left, next_are, newest_tried}
use Rattle.table.proofs.Stacked.{newest_record, gone_on}
use Rattle.table.proofs.Filled.{proper_set, power_some, newest_proper}
use Rattle.table.proofs.engine.levels.Levels.enter_next.Goals as goal

pub returns-clause-list : goal.returns-clause-list
returns-clause-list c = gone_on c.args.self.now c.in-Some.level.now c.advance-value.new.self (c.in-Some.ensures.variant.0 refl) c.in-Some.ensures.value c.advance-value.ensures.after

pub returns-clause-after : goal.returns-clause-after
returns-clause-after c =
    let s = c.args.self.now in
    let xs = s.records.items in
    let l = c.in-Some.level.now in
    let there : 0 < s.records.len = c.in-Some.ensures.variant.0 refl in
    let some : 0 < length s.records.items = omega (arith, there, s.records.ok.0) in
    let read = newest_record s l there c.in-Some.ensures.value in
    let left : l.left ≢ 0 = λ z. some_left s.width s.trail.items xs some c.requires.unspent (ap (λ (x : LevelRecord). x.left) (sym read) ∙ z) in
    let one : c.single.result ≡ only (least l.left) = c.single.ensures ∙ sym (only_mask c.advance-value.result (c.advance-value.ensures.inside (omega (arith, left)))) ∙ ap only c.advance-value.ensures.value in
    let on = gone_on s l c.advance-value.new.self there c.in-Some.ensures.value c.advance-value.ensures.after in
    ap (λ (k : LevelRecord). set c.copy_from_slice-2.new.self k.voice c.single.result) c.advance-value.ensures.after
    ∙ next_are s.width s.trail.items xs c.args.voices.now c.copy_from_slice-2.new.self l c.single.result some
    (c.copy_from_slice-2.ensures.after ∙ c.newest_sets.ensures.value ∙ ap newest_sets on ∙ newest_tried (levels_in s)) read one

pub returns-clause-proper : goal.returns-clause-proper
returns-clause-proper c = λ voices.
    let s = c.args.self.now in
    let xs = s.records.items in
    let l = c.in-Some.level.now in
    let there : 0 < s.records.len = c.in-Some.ensures.variant.0 refl in
    let some : 0 < length s.records.items = omega (arith, there, s.records.ok.0) in
    let read = newest_record s l there c.in-Some.ensures.value in
    let left : l.left ≢ 0 = λ z. some_left s.width s.trail.items xs some c.requires.unspent (ap (λ (x : LevelRecord). x.left) (sym read) ∙ z) in
    let one : c.single.result ≡ only (least l.left) = c.single.ensures ∙ sym (only_mask c.advance-value.result (c.advance-value.ensures.inside (omega (arith, left)))) ∙ ap only c.advance-value.ensures.value in
    let small : c.single.result < 2 ^ 64 = search rules in
    let on = gone_on s l c.advance-value.new.self there c.in-Some.ensures.value c.advance-value.ensures.after in
    proper_set c.copy_from_slice-2.new.self c.advance-value.new.self.voice c.single.result (omega (arith, one, power_some (least l.left)), small)
    (subst Proper (sym (c.copy_from_slice-2.ensures.after ∙ c.newest_sets.ensures.value ∙ ap newest_sets on ∙ newest_tried (levels_in s))) (newest_proper s))
