use Rattle.std.proofs.Common.{ℕ, ◌||◌, nat_eq, slice_index, sym, ap, ◌∙◌}
use Rattle.std.proofs.lemmas.List.{take_all}
use Rattle.std.proofs.lemmas.List.Folds.{list_any_more}
use Rattle.sets.specs.Placings.{some_empty}
use Rattle.search.proofs.propagation.has_empty.Goals as goal

pub loop-s-preserved : goal.loop-s-preserved
loop-s-preserved c =
    let i = c.loop-s.s-index in
    ap (λ b. b || nat_eq (slice_index c.args.sets.now i) 0) c.loop-s.invariant
    ∙ sym (list_any_more (λ (s : ℕ). nat_eq s 0) c.args.sets.now i 0 c.loop-s-test.true)

pub returns : goal.returns
returns c = c.loop-s.invariant ∙ ap some_empty (take_all c.loop-s.s-index c.args.sets.now c.loop-s-test.false)
