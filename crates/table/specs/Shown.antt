-- What a table's fields say, and what the code's results say as answers.
use Rattle.std.specs.Prelude.{◌≡◌, ℕ, List, [], take, Ok, Err, vec_items, Result}
use Rattle.rows.specs.declared.bank.Bank as bank
use Rattle.rows.specs.Rows.{RowData}
use Rattle.rows.specs.Views.{rows_of}
use Rattle.stores.specs.declared.store.Store as store
use Rattle.search.specs.Calls as calls
use Rattle.search.specs.Calls.{Call, Answer, Does, result}
use Rattle.search.specs.Histories.{History}
use Rattle.table.specs.Searches.{status_of, table_of}
use Rattle.table.specs.declared.outcome.Outcome.{Outcome}
use Rattle.table.specs.declared.outcome.Outcome.TheVariants.{Stopped, Found, None}
use Rattle.table.specs.declared.refusal.Refusal.{Refusal}
use Rattle.table.specs.declared.table.Table.{Table}
use Rattle.table.specs.Refusals.{refusal_number}
use Rattle.table.specs.CallLaws.{ExtendsHistories}

module _ {B S : Type 0} {b : bank.Ghosts B} {s : store.Ghosts S} where
  -- the table's rows
  abbrev pub rows_in : Table B S b s → List RowData
  rows_in t = rows_of (take t.posted (vec_items t.rows))

  -- the table as the definitions have it
  abbrev pub model : Table B S b s → calls.TableData
  model t = table_of (vec_items t.voices) (rows_in t) t.search

  -- the state that its store is in
  abbrev pub store_in : Table B S b s → s.behaviour.State
  store_in t = s.state t.store

  -- the values that it has found
  abbrev pub found_in : Table B S b s → List ℕ
  found_in t = result (status_of t.search)

  -- ---- a call takes the table t with its store to the table u with its store

  -- by what the call is to do
  abbrev pub CallDone : Table B S b s → Call → Answer → Table B S b s → Type 0
  CallDone t c a u = Does s.behaviour b.meaning (model t) (store_in t) c a (model u) (store_in u)

  -- and by how it extends every history of calls
  abbrev pub CallExtends : Table B S b s → Call → Answer → Table B S b s → Type 0
  CallExtends t c a u =
      ExtendsHistories s.behaviour b.meaning (model t) (store_in t) c a (model u) (store_in u)

  -- what Make gives over a store in this state: a table with which a history begins
  abbrev pub Begins : s.behaviour.State → Table B S b s → Type 0
  Begins g t = History s.behaviour b.meaning g [] (model t) (store_in t)

-- ---- answers

-- of Declare and Post
abbrev pub done_answer : Result Unit Refusal → Answer
done_answer (Ok x) = Answer.done
done_answer (Err refusal) = Answer.refused (refusal_number refusal)

-- of Solve, where the table has then found these values
abbrev pub outcome_answer : Outcome → List ℕ → Answer
outcome_answer Stopped found = Answer.stopped
outcome_answer Found found = Answer.found found
outcome_answer None found = Answer.none

abbrev pub solve_answer : Result Outcome Refusal → List ℕ → Answer
solve_answer (Ok outcome) found = outcome_answer outcome found
solve_answer (Err refusal) found = Answer.refused (refusal_number refusal)

-- of Read, with the buffer as it then is
abbrev pub read_answer : Result ℕ Refusal → List ℕ → Answer
read_answer (Ok count) buffer = Answer.wrote count buffer
read_answer (Err refusal) buffer = Answer.refused (refusal_number refusal)

-- a refused Read leaves the buffer as it was
abbrev pub LeftAlone : Result ℕ Refusal → List ℕ → List ℕ → Type 0
LeftAlone (Ok count) before after = Unit {0}
LeftAlone (Err refusal) before after = after ≡ before
