use Rattle.std.proofs.Common.{◌≡◌, ℕ, ◌+◌, true, false, is_some, drop, sym, refl, ap, ◌∙◌, subst}
use Rattle.std.proofs.lemmas.Bool.{not-false}
use Rattle.sets.specs.Placings.{same, some_empty}
use Rattle.sets.proofs.Lists.{same_is}
use Rattle.rows.specs.Views.{rows_of}
use Rattle.rows.specs.Placed.{Ready}
use Rattle.search.specs.Propagation.{round, round_from}
use Rattle.search.specs.declared.propagation.RoundEnd.{RoundEnd}
use Rattle.search.specs.Rounds.{due_of, is_emptied}
use Rattle.search.proofs.Boxes.{proper_full}
use Rattle.search.proofs.PropagationFacts.{turn_ready}
use Rattle.search.proofs.Scans.{Turned, round_idle, round_more}
use Rattle.search.proofs.StableRows.{Going, going_idle, going_over, going_ends, going_stops, accepted_row}
use Rattle.search.proofs.propagation.run_round.Goals as goal
use Rattle.search.proofs.propagation.run_round.Goals.{then-turn+else-has_empty, else-turn}

pub loop-i-init : goal.loop-i-init
loop-i-init g c = λ h s. (refl, (refl, s), h, refl)

pub loop-i-preserved : goal.loop-i-preserved
loop-i-preserved g c = λ h s.
    let m = g.B.Bank.meaning in
    let rows = c.args.rows.now in
    let i = c.loop-i.i in
    let now = c.loop-i.invariant h s in
    let r = c.index-rows-i.result in
    let u = c.loop-i.sets in
    let t = c.turn.new.sets in
    let taken = accepted_row m rows _ i r now.2.accepted c.loop-i-test.true c.index-rows-i.is in
    let w : Turned m rows i r u t c.turn.result =
    record { inside = c.loop-i-test.true; row_is = c.index-rows-i.is; left = c.turn.ensures.after; paired = c.turn.ensures.value taken now.2.proper } in
    let left = λ (next : RoundEnd) (end : ℕ).
    (round_from m (is_some (due_of next)) (rows_of (drop (i + 1) rows)) t ≡ round m (rows_of rows) c.args.sets.now)
    × Going m rows c.args.stable (i + 1) t (due_of next) end
    × Ready m (rows_of rows) t
    × (is_emptied next ≡ false) in
    elim c.if-turn.branch [
      | then-turn+else-has_empty v ↦ (
          let full : some_empty t ≡ false = sym v.has_empty.ensures ∙ v.if-has_empty.false in
          subst (λ d. left d c.if-turn.end) (sym v.next-is) (
            sym (round_more m (is_some (due_of c.loop-i.next)) rows i r u t c.turn.result w v.if-turn.true full) ∙ now.0,
            (v.end-is, λ h. h),
            subst (Ready m (rows_of rows)) (sym w.left) (turn_ready m g.met.B.Bank.lawful (rows_of rows) _ u now.2 taken (ap some_empty (sym w.left) ∙ full)),
            refl,
          ))
      | else-turn v ↦ (
          let idle : t ≡ u = same_is t u (not-false (same t u) (sym w.paired ∙ v.if-turn.false)) in
          subst (λ d. left d c.if-turn.end) (sym v.next-is) (subst (left c.loop-i.next) (sym v.end-is) (
            sym (round_idle m (is_some (due_of c.loop-i.next)) rows i r u t c.turn.result w v.if-turn.false) ∙ now.0,
            going_idle m rows c.args.stable i r u t c.turn.result (due_of c.loop-i.next) c.loop-i.end w v.if-turn.false now.1,
            subst (Ready m (rows_of rows)) (sym idle) now.2,
            now.3,
          )))
    ]

pub returns-then-has_empty-clause-done : goal.returns-then-has_empty-clause-done
returns-then-has_empty-clause-done g c = λ h s.
    let m = g.B.Bank.meaning in
    let rows = c.args.rows.now in
    let i = c.loop-i.i in
    let now = c.loop-i.invariant h s in
    let t = c.turn.new.sets in
    let taken = accepted_row m rows _ i c.index-rows-i.result now.2.accepted c.loop-i-test.true c.index-rows-i.is in
    let w : Turned m rows i c.index-rows-i.result c.loop-i.sets t true =
    record { inside = c.loop-i-test.true; row_is = c.index-rows-i.is; left = c.turn.ensures.after; paired = sym c.if-turn.true ∙ c.turn.ensures.value taken now.2.proper } in
    going_stops m rows c.args.stable i c.index-rows-i.result c.args.sets.now c.loop-i.sets t (due_of c.loop-i.next) w (sym c.has_empty.ensures ∙ c.if-has_empty.true) now.0

pub returns-then-has_empty-clause-emptied : goal.returns-then-has_empty-clause-emptied
returns-then-has_empty-clause-emptied g c = λ h s. sym c.if-has_empty.true ∙ c.has_empty.ensures

pub returns-then-i-end-clause-done : goal.returns-then-i-end-clause-done
returns-then-i-end-clause-done g c = λ h s.
    let now = c.loop-i.invariant h s in
    going_ends g.B.Bank.meaning c.args.rows.now c.args.stable c.loop-i.i c.args.sets.now c.loop-i.sets (due_of c.loop-i.next) c.loop-i.end now.1 c.if-i-end.true now.0

pub returns-after-loop-i-clause-done : goal.returns-after-loop-i-clause-done
returns-after-loop-i-clause-done g c = λ h s.
    let now = c.loop-i.invariant h s in
    going_over g.B.Bank.meaning c.args.rows.now c.args.stable c.loop-i.i c.args.sets.now c.loop-i.sets (due_of c.loop-i.next) c.loop-i.end now.1 c.loop-i-test.false now.0

pub returns-then-i-end-clause-emptied : goal.returns-then-i-end-clause-emptied
returns-then-i-end-clause-emptied g c = λ h s. let now = c.loop-i.invariant h s in now.3 ∙ sym (proper_full c.loop-i.sets now.2.proper)

pub returns-after-loop-i-clause-emptied : goal.returns-after-loop-i-clause-emptied
returns-after-loop-i-clause-emptied g c = λ h s. let now = c.loop-i.invariant h s in now.3 ∙ sym (proper_full c.loop-i.sets now.2.proper)
