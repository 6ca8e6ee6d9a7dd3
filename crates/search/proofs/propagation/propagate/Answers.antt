use Rattle.std.proofs.Common.{◌≡◌, ℕ, suc, ◌+◌, ◌-◌, ◌*◌, true, length, le_refl, sym, refl, ap, ◌∙◌, subst, arith}
use Rattle.std.proofs.lemmas.List.{at_drop_all}
use Rattle.rows.specs.Views.{rows_of}
use Rattle.search.specs.Propagation.{rounds}
use Rattle.search.specs.Results.{Stable, RoundDone}
use Rattle.search.specs.Rounds.{due_of, is_emptied}
use Rattle.search.proofs.StableRows.{due_ready}
use Rattle.search.proofs.Scans.{rounds_more}
use Rattle.search.proofs.propagation.propagate.Goals as goal

pub loop-init : goal.loop-init
loop-init g c = λ ready.
    let most = 64 * length c.args.sets.now in
    let all : suc (most - 0) ≡ suc most = omega arith in (
      ap (λ (n : ℕ). rounds g.B.Bank.meaning (rows_of c.args.rows.now) n c.args.sets.now) all,
      subst (λ l. Stable g.B.Bank.meaning (rows_of l) c.args.sets.now) (sym (at_drop_all (λ l. l) c.args.rows.now (length c.args.rows.now) (le_refl (length c.args.rows.now)))) tt,
      ready,
    )

pub loop-preserved : goal.loop-preserved
loop-preserved g c = λ ready.
    let m = g.B.Bank.meaning in
    let rows = rows_of c.args.rows.now in
    let most = 64 * length c.args.sets.now in
    let one_less : suc (most - (c.loop.counter + 1)) ≡ most - c.loop.counter = omega arith in
    let now = c.loop.invariant ready in
    let t = c.run_round.new.sets in
    let done = subst (λ next. RoundDone m c.args.rows.now c.loop.sets (due_of next) t) c.in-Due.is (c.run_round.ensures.done now.2 now.1) in (
      ap (λ (n : ℕ). rounds m rows n t) one_less
          ∙ sym (rounds_more m rows (most - c.loop.counter) c.loop.sets t true done.after done.value refl)
          ∙ now.0,
      done.rest,
      due_ready m g.met.B.Bank.lawful c.args.rows.now c.loop.sets t c.in-Due.rest now.2 done,
    )

pub returns-in-Emptied-clause-value : goal.returns-in-Emptied-clause-value
returns-in-Emptied-clause-value g c = λ ready.
    let now = c.loop.invariant ready in
    ap is_emptied (sym c.in-Emptied.is) ∙ c.run_round.ensures.emptied now.2 now.1

pub returns-in-Settled-clause-value : goal.returns-in-Settled-clause-value
returns-in-Settled-clause-value g c = λ ready.
    let now = c.loop.invariant ready in
    ap is_emptied (sym c.in-Settled.is) ∙ c.run_round.ensures.emptied now.2 now.1
