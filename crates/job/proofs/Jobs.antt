-- The job's calls, and what their report says.
use Rattle.std.proofs.Common.{◌≡◌, ℕ, ◌<◌, ◌≤◌, true, false, List, [], ◌∷◌, length, take, codes, Ok, Err, Result, min, ◌⊎◌, inl, inr, sym, refl, ap, ◌∙◌, subst, subst₂, arith}
use Rattle.std.specs.Result.{result_unwrap_or}
use Rattle.std.proofs.lemmas.Bool.{both_ways, cases_lt}
use Rattle.std.proofs.lemmas.List.{take_all}
use Rattle.rows.specs.Rows.{RowData, Meaning}
use Rattle.rows.specs.Laws.{Laws}
use Rattle.rows.specs.Reasons.{Judgement}
use Rattle.stores.specs.Behaviours.{Behaviour}
use Rattle.rows.specs.declared.limits.TheConstants.{MOST_BUDGET, MOST_SHEET}
use Rattle.search.specs.Search.{Status}
use Rattle.search.specs.Search.Status.{fresh, going, satisfied, unsatisfiable}
use Rattle.search.specs.Calls.{TableData, fresh_table, Answer, judged, over, result, status_answer, Does}
use Rattle.search.specs.Calls.Call.{solve}
use Rattle.search.specs.Histories.{History, keys_lost, LeadsTo, declared_voices, posted_rows}
use Rattle.search.specs.Results.{SolveMeans}
use Rattle.search.proofs.OverEvery.{invariant_holds, solve_keeps_budget, answers_hold, tables_given}
use Rattle.table.specs.declared.outcome.Outcome.{Outcome}
use Rattle.table.specs.declared.outcome.Outcome.TheVariants.{Stopped, Found, None}
use Rattle.table.specs.declared.refusal.Refusal.{Refusal}
use Rattle.table.specs.Outcomes.{outcome_name}
use Rattle.table.specs.Searches.{outcome_of}
use Rattle.table.specs.Shown.{solve_answer}
use Rattle.sheets.specs.Reading.{SheetReading}
use Rattle.sheets.specs.Reading.SheetReading.{accepted, faulty}
use Rattle.sheets.specs.Laws.{declared_after, posted_after}
use Rattle.sheets.specs.Loading.{table_after, LoadAnswer, reading_answer, FillHistory}
use Rattle.sheets.specs.Loading.LoadAnswer.{sheet_loaded, sheet_fault}
use Rattle.job.specs.Promised.{Reports}
use Rattle.job.specs.Texts.{outcome_text, searched_text}
use Rattle.job.specs.Planned.{JobDone}

-- the first 20,000 bytes
pub sheet_front : (sheet : List ℕ) (n : ℕ) → n ≡ min (length sheet) 20000 → take n sheet ≡ take MOST_SHEET sheet
sheet_front sheet n e = go (cases_lt (length sheet) 20000)
  where
    go : (length sheet < 20000) ⊎ (20000 ≤ length sheet) → take n sheet ≡ take MOST_SHEET sheet
    go (inl h) = take_all n sheet (omega arith) ∙ sym (take_all 20000 sheet (omega arith))
    go (inr h) = let k : n ≡ 20000 = omega arith in ap (λ (x : ℕ). take x sheet) k

-- ---- answers that do not meet

abbrev IsLoaded : LoadAnswer → Type 0
IsLoaded sheet_loaded = Unit {0}
IsLoaded (sheet_fault number place layer) = ⊥

-- ---- outcomes

-- what an answer of Solve says that the search has come to
abbrev answer_outcome : Answer → Outcome
answer_outcome Answer.done = Stopped
answer_outcome (Answer.refused n) = Stopped
answer_outcome (Answer.found p) = Found
answer_outcome Answer.none = None
answer_outcome Answer.stopped = Stopped
answer_outcome (Answer.wrote n b) = Stopped

solve_outcome : (r : Result Outcome Refusal) (values : List ℕ) → result_unwrap_or r Stopped ≡ answer_outcome (solve_answer r values)
solve_outcome (Ok Stopped) values = refl
solve_outcome (Ok Found) values = refl
solve_outcome (Ok None) values = refl
solve_outcome (Err refusal) values = refl

status_outcome : (p : Status) → answer_outcome (status_answer p) ≡ outcome_of p
status_outcome fresh = refl
status_outcome (going l ls) = refl
status_outcome (satisfied p) = refl
status_outcome unsatisfiable = refl

status_stops : (p : Status) → over p ≡ false → status_answer p ≡ Answer.stopped
status_stops fresh h = refl
status_stops (going l ls) h = refl
status_stops (satisfied p) h = absurd (both_ways true h refl)
status_stops unsatisfiable h = absurd (both_ways true h refl)

-- the report of a search with this status
reports_status : (m : Meaning) (voices : List ℕ) (rows : List RowData) (p : Status) (opened exhausted : ℕ) → SolveMeans m voices rows (status_answer p)
    → (over p ≡ false → opened ≡ 1_000_000) → Reports m voices rows (outcome_text (outcome_name (outcome_of p)) opened exhausted (result p))
reports_status m voices rows fresh opened exhausted s h =
    subst (λ (n : ℕ). Reports m voices rows (outcome_text (codes "stopped") n exhausted [])) (sym (h refl)) (Reports.reports_stopped exhausted)
reports_status m voices rows (going l ls) opened exhausted s h =
    subst (λ (n : ℕ). Reports m voices rows (outcome_text (codes "stopped") n exhausted [])) (sym (h refl)) (Reports.reports_stopped exhausted)
reports_status m voices rows (satisfied p) opened exhausted s h = Reports.reports_found p opened exhausted s
reports_status m voices rows unsatisfiable opened exhausted s h = Reports.reports_none opened exhausted s

-- ---- a sheet loaded into a new table

module _ (b : Behaviour) (m : Meaning) (L : Laws m) (g : b.State) (sheet : List ℕ) where
  -- the Solve of an accepted sheet
  solved : (voices : List ℕ) (rows : List RowData) (t u : TableData) (v w : b.State) (r : Result Outcome Refusal) (values : List ℕ)
      → t ≡ fresh_table voices rows → History b m g (posted_after (declared_after [] voices) rows) t v
      → Does b m t v (solve MOST_BUDGET) (solve_answer r values) u w
      → JobDone b m g sheet (accepted voices rows) (Ok (result_unwrap_or r Stopped)) u w
  solved voices rows t u v w r values e H D =
      let a = solve_answer r values in
      let calls = posted_after (declared_after [] voices) rows in
      let j : judged m t (solve MOST_BUDGET) ≡ Judgement.passes = ap (λ (x : TableData). judged m x (solve MOST_BUDGET)) e in
      let k = (solve_keeps_budget b m t v MOST_BUDGET a u w j D).0 in
      let all : History b m g ((solve MOST_BUDGET, a) ∷ calls) u w = History.then calls t u v w (solve MOST_BUDGET) a H tt D in
      let given = tables_given b m g calls t v H in
      let says_so : SolveMeans m (declared_voices calls) (posted_rows m calls) a = answers_hold b m L g [] calls MOST_BUDGET a u w all in
      let means : SolveMeans m voices rows (status_answer u.status) = subst (λ (x : Answer). SolveMeans m voices rows x) k.answer
      (subst₂ (λ (vs : List ℕ) (rs : List RowData). SolveMeans m vs rs a) (sym given.0 ∙ ap (λ (x : TableData). x.voices) e) (sym given.1 ∙ ap (λ (x : TableData). x.rows) e) says_so) in
      let outcome : result_unwrap_or r Stopped ≡ outcome_of u.status = solve_outcome r values ∙ ap answer_outcome k.answer ∙ status_outcome u.status in
      let reported : searched_text (result_unwrap_or r Stopped) u ≡ searched_text (outcome_of u.status) u = ap (λ (o : Outcome). searched_text o u) outcome in
      let spent : over u.status ≡ false → u.opened ≡ 1_000_000 =
      λ h. let stops = (k.stopped_exactly.0 (k.answer ∙ status_stops u.status h)).0 in omega (arith, stops, ap (λ (x : TableData). x.opened) e) in
      record {
        lost = keys_lost all;
        history = subst (λ (x : Answer). LeadsTo b m g ((solve MOST_BUDGET, x) ∷ calls) u w (keys_lost all)) k.answer (all, refl);
        invariant = invariant_holds b m L g ((solve MOST_BUDGET, a) ∷ calls) u w all;
        reported = reported;
        promised = subst (Reports m voices rows) (sym reported) (reports_status m voices rows u.status u.opened u.exhausted means spent);
      }

  pub sheet_solved : (o : SheetReading) (t u : TableData) (v w : b.State) (r : Result Outcome Refusal) (values : List ℕ)
      → sheet_loaded ≡ reading_answer o → t ≡ table_after o → FillHistory b m g [] sheet o t v
      → Does b m t v (solve MOST_BUDGET) (solve_answer r values) u w → JobDone b m g sheet o (Ok (result_unwrap_or r Stopped)) u w
  sheet_solved (accepted voices rows) t u v w r values e l H D = solved voices rows t u v w r values l H.0 D
  sheet_solved (faulty number place layer) t u v w r values e l H D = absurd (subst IsLoaded e tt)
