-- What a Read leaves of what was found.
use Rattle.rows.specs.declared.bank.Bank as bank
use Rattle.stores.specs.declared.store.Store as store
use Rattle.std.proofs.Common.{◌≡◌, ℕ, ◌≤◌, Bool, not, ltb, List, [], ◌∷◌, ◌++◌, length, take, drop, vec_items, Ok, Err, Result, sym, refl, ap, ◌∙◌, ap₂, arith, le-ltb}
use Rattle.std.specs.Result.{result_unwrap_or}
use Rattle.std.proofs.lemmas.List.{length-map, take_at}
use Rattle.sets.specs.Sets.{least}
use Rattle.rows.specs.Rows.{Meaning}
use Rattle.stores.specs.Behaviours.{Behaviour}
use Rattle.search.specs.Search.{Status, Level}
use Rattle.search.specs.Search.Status.{fresh, going, satisfied, unsatisfiable}
use Rattle.rows.specs.Reasons.{Judgement, judge}
use Rattle.search.specs.Calls.{TableData, Answer, Does, is_found, result}
use Rattle.search.specs.Calls.Call.{read}
use Rattle.search.specs.Calls.Answer.{wrote, refused}
use Rattle.table.specs.declared.engine.level.End.{End}
use Rattle.table.specs.declared.engine.level.End.TheVariants.{Fresh, Found, Exhausted}
use Rattle.table.specs.Statuses.{status_at}
use Rattle.table.specs.Searches.{levels_of}
use Rattle.table.specs.declared.table.Table as tables
use Rattle.table.specs.declared.refusal.Refusal.{Refusal}
use Rattle.table.specs.Refusals.{refusal_number}
use Rattle.table.specs.Shown.{found_in, read_answer}

-- there are no more values than sets
pub result_length : (e : End) (sets : List ℕ) (levels : List Level) → length (result (status_at e sets levels)) ≤ length sets
result_length Fresh sets [] = omega arith
result_length Found sets [] = omega (arith, length-map sets least)
result_length Exhausted sets [] = omega arith
result_length e sets (l ∷ levels) = omega arith

-- so that there are 80 at most
pub found_few : {B S : Type 0} {b : bank.Ghosts B} {s : store.Ghosts S} (t : tables.Table B S b s) → length (found_in t) ≤ 80
found_few t = omega (arith, result_length t.search.end (vec_items t.search.sets) (levels_of t.search), t.search.few, t.search.sets.ok.0)

-- a Read that passes has written the values
read_passed : {st : Behaviour} {m : Meaning} {t u : TableData} {v w : st.State} {buffer : List ℕ} {a : Answer} (k : ℕ) (after : List ℕ) → Does st m t v (read buffer) a u w → a ≡ wrote k after
    → take k after ≡ result t.status
read_passed k after (Does.refuses c n d) e = cc
read_passed {t = t} {buffer = buffer} k after (Does.reads b p j f) e =
    let n : k ≡ length p = cc in
    let l : after ≡ p ++ drop (length p) buffer = cc in
    ap₂ (λ (i : ℕ) (x : List ℕ). take i x) n l ∙ take_at p (drop (length p) buffer) (length p) refl ∙ sym (ap result f)

read_count : {st : Behaviour} {m : Meaning} {t u : TableData} {v w : st.State} {buffer : List ℕ} {a : Answer} (k : ℕ) (after : List ℕ) → Does st m t v (read buffer) a u w → a ≡ wrote k after
    → k ≡ length (result t.status)
read_count k after (Does.refuses c n d) e = cc
read_count {t = t} k after (Does.reads b p j f) e =
    let n : k ≡ length p = cc in
    n ∙ sym (ap (λ (x : Status). length (result x)) f)

-- one that is refused, though the buffer is long enough, has found nothing
none_found : (p : Status) (buffer : List ℕ) (n : ℕ) → length (result p) ≤ length buffer
    → judge ((15, not (is_found p)) ∷ (16, ltb (length buffer) (length (result p))) ∷ []) ≡ Judgement.refused_under n → [] ≡ result p
none_found fresh buffer n h d = refl
none_found (going l ls) buffer n h d = refl
none_found unsatisfiable buffer n h d = refl
none_found (satisfied p) buffer n h d =
    let f = ap (λ (b : Bool). judge ((16, b) ∷ [])) (le-ltb (length buffer) (length p) h) in
    cc

read_refused : {st : Behaviour} {m : Meaning} {t u : TableData} {v w : st.State} {buffer : List ℕ} {a : Answer} (n : ℕ) → Does st m t v (read buffer) a u w → a ≡ refused n
    → length (result t.status) ≤ length buffer → [] ≡ result t.status
read_refused {t = t} {buffer = buffer} n (Does.refuses c k d) e h = none_found t.status buffer k h d
read_refused n (Does.reads b p j f) e h = cc

-- so that as many values as it tells, or none where it is refused, are those that were found
pub read_found : {st : Behaviour} {m : Meaning} {t u : TableData} {v w : st.State} {buffer : List ℕ} (r : Result ℕ Refusal) (count : ℕ) (after : List ℕ) → Does st m t v (read buffer) (read_answer r after) u w
    → count ≡ result_unwrap_or r 0 → length (result t.status) ≤ length buffer → (count ≡ length (result t.status)) × (take count after ≡ result t.status)
read_found {t = t} (Ok k) count after d e h = (e ∙ read_count k after d refl, ap (λ (n : ℕ). take n after) e ∙ read_passed k after d refl)
read_found {t = t} (Err refusal) count after d e h =
    let none = read_refused (refusal_number refusal) d refl h in (e ∙ ap length none, ap (λ (n : ℕ). take n after) e ∙ none)
