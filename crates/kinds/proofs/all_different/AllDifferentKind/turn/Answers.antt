use Rattle.std.proofs.Common.{get_or, take, sym, refl, ap, ◌∙◌, rules}
use Rattle.std.proofs.lemmas.List.{take_all}
use Rattle.kinds.specs.Differing.{may_stay, values_taken}
use Rattle.rows.specs.Shared.{at}
use Rattle.rows.proofs.Cuts.{Small}
use Rattle.rows.proofs.Narrowed.{unchanged}
use Rattle.rows.proofs.Scans.{nobody}
use Rattle.kinds.proofs.Taking.{takes_more_one, takes_flag}
use Rattle.sets.specs.Placings.{changed}
use Rattle.kinds.proofs.Sharing.{passed_over, stable}
use Rattle.kinds.proofs.all_different.AllDifferentKind.turn.Goals as goal
use Rattle.kinds.proofs.all_different.AllDifferentKind.turn.Goals.{then-set_of-shared-ne0, else-set_of-shared-ne0}

pub loop-m-init : goal.loop-m-init
loop-m-init c = (refl, sym (unchanged c.args.sets.now))

pub loop-m-preserved : goal.loop-m-preserved
loop-m-preserved c =
    let small : Small c.args.sets.now = λ i. search rules in
    let first = c.args.sets.now in
    let ms = c.members-members.result.now in
    let i = c.loop-m.m-index in
    let n = get_or ms i nobody in
    let u = c.loop-m.sets in
    elim c.if-set_of-shared-ne0.branch [
      | then-set_of-shared-ne0 w ↦ (let t = w.take_from_others-took.new.sets in (
        w.sets-is ∙ takes_more_one ms i first u t c.loop-m-test.true c.loop-m.invariant.0 w.take_from_others-took.ensures.after,
        w.took-is ∙ takes_flag (may_stay n (at u n)) ms (take i ms) first u t c.loop-m.took w.take_from_others-took.result small
            c.loop-m.invariant.0 w.take_from_others-took.ensures.after c.loop-m.invariant.1 w.take_from_others-took.ensures.value ∙ ap (λ x. changed x first) (sym w.sets-is),
      ))
      | else-set_of-shared-ne0 w ↦ (
        w.sets-is ∙ passed_over ms i c.shared_and_placed-shared.result.0 c.set_of.result first u small c.loop-m-test.true c.shared_and_placed-shared.ensures.shared
            c.loop-m.invariant.0 c.set_of.ensures w.if-set_of-shared-ne0.false,
        w.took-is ∙ c.loop-m.invariant.1 ∙ ap (λ x. changed x first) (sym w.sets-is),
      )
    ]

pub returns : goal.returns
returns c = record {
  after = c.loop-m.invariant.0 ∙ ap (λ l. values_taken c.members-members.result.now l c.args.sets.now) (take_all c.loop-m.m-index c.members-members.result.now c.loop-m-test.false)
      ∙ ap (λ l. values_taken l l c.args.sets.now) c.members-members.ensures;
  value = c.loop-m.invariant.1;
}

pub returns-then-shared-placed-eq0 : goal.returns-then-shared-placed-eq0
returns-then-shared-placed-eq0 c =
    let s = c.args.sets.now in
    let small : Small s = λ i. search rules in
    let none = stable c.members-members.result.now c.shared_and_placed-shared.result.0 c.shared_and_placed-shared.result.1 s small
    c.shared_and_placed-shared.ensures.shared c.shared_and_placed-shared.ensures.placed c.if-shared-placed-eq0.true
    in
    record { after = sym (ap (λ l. values_taken l l s) (sym c.members-members.ensures) ∙ none); value = sym (unchanged s) }
