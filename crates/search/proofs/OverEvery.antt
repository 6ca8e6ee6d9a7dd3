-- The laws of the search over every behaviour of a store.
use Rattle.std.proofs.Common.{◌≡◌, ℕ, true, ◌∙◌, sym, subst}
use Rattle.rows.specs.Rows.{Meaning}
use Rattle.stores.specs.Behaviours.{Behaviour}
use Rattle.rows.specs.Reasons.{Judgement}
use Rattle.search.specs.Calls.{TableData, Answer, judged, over, Does}
use Rattle.search.specs.Calls.Call.{solve}
use Rattle.search.specs.Results.{Invariant}
use Rattle.search.specs.Theorems.{InvariantHolds, BranchesLowest, LevelsRise, NeverTwice, AnswersHold, ReadsHold, TablesGiven, ResultsAgree, SolveKeepsBudget, LimitsHold, StoresAgree}
use Rattle.search.proofs.AnyStore.{history_any, goes_any, steps_any, does_any, after_any, lost_any, steps_new, goes_over}
use Rattle.search.proofs.HistoryFacts as histories
use Rattle.search.proofs.HistoryFacts.{not_both}
use Rattle.search.proofs.BranchingFacts as branching
use Rattle.search.proofs.AnswerFacts as answers
use Rattle.search.proofs.LimitFacts as limits
use Rattle.search.proofs.NeverTwice as twice
use Rattle.search.proofs.StoreFacts as stores

module _ (b : Behaviour) where
  pub invariant_holds : InvariantHolds b
  invariant_holds m L g h t s H = subst (λ (n : ℕ). Invariant m n t (b.view s)) (lost_any b m H) (histories.invariant_holds m L h t (b.view s) (history_any b m H))

  pub branches_lowest : BranchesLowest b
  branches_lowest m L g h t s H n k u r G = branching.branches_lowest m L h t (b.view s) (history_any b m H) n k u (b.view r) (goes_any b m G)

  pub levels_rise : LevelsRise b
  levels_rise m g h t s H n k u r G = branching.levels_rise m h t (b.view s) (history_any b m H) n k u (b.view r) (goes_any b m G)

  pub never_twice : NeverTwice b
  never_twice m L g h t s H n j u r G p x i k S =
      steps_new b m S (twice.never_twice m L h t (b.view s) (history_any b m H) n j u (b.view r) (goes_any b m G) p (b.view x) i k (steps_any b m S))

  pub answers_hold : AnswersHold b
  answers_hold m L g later before budget a t s H = answers.answers_hold m L later before budget a t (b.view s) (history_any b m H)

  pub reads_hold : ReadsHold b
  reads_hold m L g later before buffer n left t s H = answers.reads_hold m L later before buffer n left t (b.view s) (history_any b m H)

  pub tables_given : TablesGiven b
  tables_given m g h t s H = answers.tables_given m h t (b.view s) (history_any b m H)

  pub limits_hold : LimitsHold b
  limits_hold m g h t s H = limits.limits_hold m h t (b.view s) (history_any b m H)

  solve_leaves : (m : Meaning) (t : TableData) (s : b.State) (budget : ℕ) (a : Answer) (u : TableData) (r : b.State)
      → judged m t (solve budget) ≡ Judgement.passes → Does b m t s (solve budget) a u r → over t.status ≡ true → r ≡ s
  solve_leaves m t s budget a u r j (Does.refuses c n d) o = absurd (not_both d j)
  solve_leaves m t s budget a u r j (Does.solves budget' u' r' lost _ S) o = goes_over b m S.goes o

  pub solve_keeps_budget : SolveKeepsBudget b
  solve_keeps_budget m t s budget a u r j D = (answers.solve_keeps_budget m t (b.view s) budget a u (b.view r) j (does_any b m D), solve_leaves m t s budget a u r j D)

pub results_agree : (b b' : Behaviour) → ResultsAgree b b'
results_agree b b' m m' L L' g g' later later' h h' budget budget' a a' t t' s s' H H' f f' =
    answers.results_agree m m' L L' later later' h h' budget budget' a a' t t' (b.view s) (b'.view s') (history_any b m H) (history_any b' m' H') f f'

pub stores_agree : (b b' : Behaviour) → StoresAgree b b'
stores_agree b b' m t s s' c a a' u u' r r' k D D' x y =
    let e =
    stores.stores_agree m t (b.view s) (b'.view s') c a a' u u' (b.view r) (b'.view r') k (does_any b m D) (does_any b' m D') (after_any b m D 0 ∙ x)
    (after_any b' m D' 0 ∙ y) in
    (e.0, e.1, e.2, λ n. sym (after_any b m D n) ∙ e.3 n ∙ after_any b' m D' n)
