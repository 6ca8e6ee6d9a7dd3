use Rattle.std.proofs.Common.{eqb, sym, ap, ◌∙◌}
use Rattle.sets.specs.Sets.{has, mask}
use Rattle.kinds.proofs.EntrySteps.{matched_none, matched_added, matched_passed, rest_smaller, taken_none, kept_all, named_all}
use Rattle.kinds.proofs.element.matching.Goals as goal

pub loop-place-init : goal.loop-place-init
loop-place-init c = matched_none c.args.entries.now c.args.indices c.args.results c.ranges.indices.fits

pub loop-place-preserved-then-contains : goal.loop-place-preserved-then-contains
loop-place-preserved-then-contains c =
    let ms = c.args.entries.now in
    let p = c.in-Some.place in
    let found = ap (has c.args.results) (sym c.entry_at-value.ensures) ∙ sym c.contains.ensures ∙ c.if-contains.true in
    matched_added ms c.args.indices c.args.results c.loop-place.left p c.take_least.new.set c.loop-place.kept c.loop-place.named c.single-kept.result c.single-named.result
    c.ranges.results.fits c.loop-place.invariant c.in-Some.ensures.value c.take_least.ensures.after found c.single-kept.ensures
    (c.single-named.ensures ∙ ap (λ a. mask 64 (λ v. eqb v a)) c.entry_at-value.ensures)

pub loop-place-preserved : goal.loop-place-preserved
loop-place-preserved c =
    let missed = ap (has c.args.results) (sym c.entry_at-value.ensures) ∙ sym c.contains.ensures ∙ c.if-contains.false in
    matched_passed c.args.entries.now c.args.indices c.args.results c.loop-place.left c.in-Some.place c.take_least.new.set c.loop-place.kept c.loop-place.named
    c.loop-place.invariant c.in-Some.ensures.value c.take_least.ensures.after missed

pub loop-place-smaller-then-contains : goal.loop-place-smaller-then-contains
loop-place-smaller-then-contains c = rest_smaller c.loop-place.left c.in-Some.place c.take_least.new.set c.loop-place.invariant.left_below c.in-Some.ensures.value c.take_least.ensures.after

pub loop-place-smaller : goal.loop-place-smaller
loop-place-smaller c = rest_smaller c.loop-place.left c.in-Some.place c.take_least.new.set c.loop-place.invariant.left_below c.in-Some.ensures.value c.take_least.ensures.after

pub returns-clause-kept : goal.returns-clause-kept
returns-clause-kept c =
    kept_all c.args.entries.now c.args.indices c.args.results c.loop-place.left c.loop-place.kept c.loop-place.named c.ranges.results.fits
    (taken_none c.loop-place.left c.in_default.ensures.value) c.loop-place.invariant

pub returns-clause-named : goal.returns-clause-named
returns-clause-named c =
    named_all c.args.entries.now c.args.indices c.args.results c.loop-place.left c.loop-place.kept c.loop-place.named c.loop-place.invariant
