-- What a Read writes of what a Solve has found.
use Rattle.std.proofs.Common.{◌≡◌, ℕ, ◌≤◌, true, List, ◌++◌, length, take, drop, is_ok, Ok, Err, vec_items, Result, sym, refl, ap, ◌∙◌, ap₂}
use Rattle.std.proofs.lemmas.List.{take_at}
use Rattle.sets.specs.Placings.{values}
use Rattle.rows.specs.Rows.{RowData, Meaning}
use Rattle.stores.specs.Behaviours.{Behaviour}
use Rattle.search.specs.Search.{Status}
use Rattle.search.specs.Search.Status.{fresh, going, satisfied, unsatisfiable}
use Rattle.search.specs.Calls.{TableData, Answer, Does, result, status_answer}
use Rattle.search.specs.Calls.Call.{solve, read}
use Rattle.search.specs.Calls.Answer.{wrote}
use Rattle.search.proofs.HistoryFacts.{not_both}
use Rattle.table.specs.declared.outcome.Outcome.{Outcome}
use Rattle.table.specs.declared.outcome.Outcome.TheVariants.{Found}
use Rattle.table.specs.declared.engine.state.Search.{Search}
use Rattle.table.specs.Searches.{status_of, levels_of, table_of, outcome_of}
use Rattle.table.specs.declared.refusal.Refusal.{Refusal}
use Rattle.table.specs.Shown.{outcome_answer, read_answer}
use Rattle.table.proofs.Calling.{found_status}
use Rattle.table.proofs.Judging.{buffer_fits}

says_found : (x : Status) (p : List ℕ) → status_answer x ≡ Answer.found p → x ≡ satisfied p
says_found fresh p e = cc
says_found (going l ls) p e = cc
says_found (satisfied q) p e = cc
says_found unsatisfiable p e = cc

-- a Solve that returns values has left the search there
pub solve_found : (st : Behaviour) (m : Meaning) {t : TableData} {v : st.State} {b : ℕ} {a : Answer} {u : TableData} {w : st.State} (p : List ℕ)
    → Does st m t v (solve b) a u w → a ≡ Answer.found p → u.status ≡ satisfied p
solve_found st m p (Does.refuses c n d) e = cc
solve_found st m p (Does.solves b u w k j S) e = says_found u.status p e

-- and they are the values of the search's sets
pub found_sets : (s : Search) (p : List ℕ) → status_of s ≡ satisfied p → status_of s ≡ satisfied (values (vec_items s.sets))
found_sets s p e = found_status s.end (vec_items s.sets) (levels_of s) (sym (ap outcome_of e))

-- a Read then passes, where the buffer is long enough
pub read_found : (st : Behaviour) (m : Meaning) {t : TableData} {v : st.State} {buffer : List ℕ} {a : Answer} {u : TableData} {w : st.State} (sets : List ℕ)
    → t.status ≡ satisfied (values sets) → length sets ≤ length buffer → Does st m t v (read buffer) a u w
    → a ≡ wrote (length (values sets)) (values sets ++ drop (length (values sets)) buffer)
read_found st m {t} {buffer = buffer} sets e h (Does.refuses c n d) = absurd (not_both d (buffer_fits m t sets buffer e h))
read_found st m {buffer = buffer} sets e h (Does.reads b p j f) =
    let q : p ≡ values sets = cc in
    ap (λ (x : List ℕ). wrote (length x) (x ++ drop (length x) buffer)) q

pub wrote_ok : (r : Result ℕ Refusal) (after : List ℕ) (n : ℕ) (bytes : List ℕ) → read_answer r after ≡ wrote n bytes → is_ok r ≡ true
wrote_ok (Ok k) after n bytes e = refl
wrote_ok (Err refusal) after n bytes e = cc

-- and the values are at the front
pub wrote_values : (k : ℕ) (after p rest : List ℕ) → wrote k after ≡ wrote (length p) (p ++ rest) → take k after ≡ p
wrote_values k after p rest e =
    let n : k ≡ length p = cc in
    let b : after ≡ p ++ rest = cc in
    ap₂ (λ (i : ℕ) (x : List ℕ). take i x) n b ∙ take_at p rest (length p) refl

-- ---- the same of the code's tables

pub status_found : (st : Behaviour) (m : Meaning) {t : TableData} {v w : st.State} {b : ℕ} (voices : List ℕ) (rows : List RowData) (s : Search) (o : Outcome) → o ≡ Found
    → Does st m t v (solve b) (outcome_answer o (result (status_of s))) (table_of voices rows s) w → status_of s ≡ satisfied (values (vec_items s.sets))
status_found st m voices rows s o e d = found_sets s (result (status_of s)) (solve_found st m (result (status_of s)) d (ap (λ (x : Outcome). outcome_answer x (result (status_of s))) e))

pub read_wrote : (st : Behaviour) (m : Meaning) {v : st.State} (voices : List ℕ) (rows : List RowData) (s : Search) (buffer after : List ℕ) (r : Result ℕ Refusal)
    → status_of s ≡ satisfied (values (vec_items s.sets)) → length (vec_items s.sets) ≤ length buffer
    → Does st m (table_of voices rows s) v (read buffer) (read_answer r after) (table_of voices rows s) v
    → read_answer r after ≡ wrote (length (values (vec_items s.sets))) (values (vec_items s.sets) ++ drop (length (values (vec_items s.sets))) buffer)
read_wrote st m voices rows s buffer after r e h d = read_found st m (vec_items s.sets) e h d

-- what is left of the bytes that a Read wrote are the found values
pub values_left : (s : Search) (buffer after : List ℕ) (r : Result ℕ Refusal) (k : ℕ) (o : Outcome) → o ≡ Found → r ≡ Ok k → status_of s ≡ satisfied (values (vec_items s.sets))
    → read_answer r after ≡ wrote (length (values (vec_items s.sets))) (values (vec_items s.sets) ++ drop (length (values (vec_items s.sets))) buffer)
    → outcome_answer o (result (status_of s)) ≡ Answer.found (take k after)
values_left s buffer after r k o f g e h =
    let p = values (vec_items s.sets) in
    ap (λ (x : Outcome). outcome_answer x (result (status_of s))) f
    ∙ ap (λ (x : Status). Answer.found (result x)) e
    ∙ sym (ap Answer.found (wrote_values k after p (drop (length p) buffer) (ap (λ (x : Result ℕ Refusal). read_answer x after) (sym g) ∙ h)))
