use Rattle.std.proofs.Common.{◌≡◌, ◌+◌, ◌<◌, ◌≤◌, true, List, take, vec_items, sym, refl, ap, inl, arith}
use Rattle.rows.specs.declared.row.Row.{Row}
use Rattle.rows.specs.Views.{rows_of}
use Rattle.search.specs.Calls.{Answer, over, result}
use Rattle.search.specs.Calls.Call.{solve}
use Rattle.table.specs.Searches.{status_of, table_of}
use Rattle.table.proofs.Searching.{ran_none, runs_by}
use Rattle.table.specs.Shown.{model, store_in, rows_in, outcome_answer}
use Rattle.table.proofs.Calling.{extends_by, refuses_by, solves_by, runs_moved, opens_within}
use Rattle.table.proofs.Judging.{budget_range, over_passes, nodes_spent, budget_fits}
use Rattle.table.proofs.table.Table.solve.Goals as goal

pub returns-then-budget-eq0 : goal.returns-then-budget-eq0
returns-then-budget-eq0 g c =
    let m = g.B.Bank.meaning in
    let t = c.args.self.now in
    let v = store_in t in
    let d = refuses_by g.S.Store.behaviour m (model t) v (solve c.args.budget) 13 (budget_range m (model t) c.args.budget c.then-budget-eq0.either) in
    record { does = d; history = extends_by g.S.Store.behaviour m g.met.B.Bank.lawful (model t) v (solve c.args.budget) (Answer.refused 13) (model t) v tt d; refused = refl; onward = omega arith; budget = omega arith }

pub returns-then-is_over : goal.returns-then-is_over
returns-then-is_over g c =
    let m = g.B.Bank.meaning in
    let t = c.args.self.now in
    let s = t.search in
    let v = store_in t in
    let b = c.args.budget in
    let e : over (status_of s) ≡ true = sym c.if-is_over.ensures in
    let d = solves_by g.S.Store.behaviour m (vec_items t.voices) (rows_in t) s s v v b c.outcome.result c.outcome.ensures
    (over_passes m (model t) b c.if-budget-eq0.false c.if-budget-gt-MOST_BUDGET.false e)
    (runs_by g.S.Store.behaviour m b 0 (model t) v (model t) v (omega arith) (ran_none g.S.Store.behaviour m (model t) v 0 refl) (inl e)) in
    record { does = d; history = extends_by g.S.Store.behaviour m g.met.B.Bank.lawful (model t) v (solve b) (outcome_answer c.outcome.result (result (status_of s))) (model t) v tt d; refused = tt; onward = omega arith; budget = omega arith }

pub returns-then-opened-budget-gt-MOST_OPENED : goal.returns-then-opened-budget-gt-MOST_OPENED
returns-then-opened-budget-gt-MOST_OPENED g c =
    let m = g.B.Bank.meaning in
    let t = c.args.self.now in
    let v = store_in t in
    let b = c.args.budget in
    let h : 1_000_000_000_000 < t.search.opened + b = omega (arith, c.if-opened-budget-gt-MOST_OPENED.true, c.opened.ensures) in
    let d = refuses_by g.S.Store.behaviour m (model t) v (solve b) 14 (nodes_spent m (model t) b c.if-budget-eq0.false c.if-budget-gt-MOST_BUDGET.false (sym c.if-is_over.ensures) h) in
    record { does = d; history = extends_by g.S.Store.behaviour m g.met.B.Bank.lawful (model t) v (solve b) (Answer.refused 14) (model t) v tt d; refused = refl; onward = omega arith; budget = omega arith }

pub returns : goal.returns
returns g c =
    let m = g.B.Bank.meaning in
    let t = c.args.self.now in
    let s = c.run.new.self in
    let v = store_in t in
    let w = g.S.Store.state c.run.new.store in
    let b = c.args.budget in
    let voices = vec_items t.voices in
    let h : t.search.opened + b ≤ 1_000_000_000_000 = omega (arith, c.if-opened-budget-gt-MOST_OPENED.false, c.opened.ensures) in
    let d = solves_by g.S.Store.behaviour m voices (rows_in t) t.search s v w b c.outcome-2.result c.outcome-2.ensures
    (budget_fits m (model t) b c.if-budget-eq0.false c.if-budget-gt-MOST_BUDGET.false h)
    (runs_moved g.S.Store.behaviour m voices c.deref-2.result.now (rows_in t) (rows_of (take t.posted c.deref.result.now)) t.search s v w b c.deref-2.ensures.value
    (ap (λ (x : List Row). rows_of (take t.posted x)) c.deref.ensures.value) c.run.ensures.runs) in
    let more = opens_within g.S.Store.behaviour c.run.ensures.runs in
    record { does = d; history = extends_by g.S.Store.behaviour m g.met.B.Bank.lawful (model t) v (solve b) (outcome_answer c.outcome-2.result (result (status_of s))) (table_of voices (rows_in t) s) w tt d; refused = tt; onward = more.0; budget = more.1 }
