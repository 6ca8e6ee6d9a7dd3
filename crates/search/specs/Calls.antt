-- A table, its calls with their refusals and answers, and what a call does.
use Rattle.std.specs.Prelude.{◌≡◌, ℕ, zero, suc, ◌+◌, ◌^◌, ◌<◌, ◌≤◌, Bool, true, false, not, ◌&&◌, ◌||◌, ◌⊎◌, List, [], ◌∷◌, ◌++◌, length, drop, ◌==◌, nat_lt}
use Rattle.rows.specs.Rows.{RowData, Meaning}
use Rattle.rows.specs.Bytes.{Bytes, decode}
use Rattle.rows.specs.Reasons.{Judgement, judge, voice_reasons, row_reasons}
use Rattle.rows.specs.Reasons.Judgement.{passes, refused_under}
use Rattle.stores.specs.Behaviours.{Behaviour}
use Rattle.rows.specs.declared.limits.TheConstants.{MOST_BUDGET, MOST_OPENED}
use Rattle.search.specs.Search.{Status, Steps}

-- ---- tables

-- the opening sets of the voices, the rows, the status of the search, the nodes opened since it
-- began and those exhausted since the store was emptied
pub record TableData : Type 0 where
  pub voices : List ℕ
  pub rows : List RowData
  pub status : Status
  pub opened : ℕ
  pub exhausted : ℕ

-- a table whose search has not begun
abbrev pub fresh_table : List ℕ → List RowData → TableData
fresh_table voices rows =
    record { voices = voices; rows = rows; status = Status.fresh; opened = 0; exhausted = 0 }

-- a table with no voices and no rows
abbrev pub empty : TableData
empty = fresh_table [] []

-- the search is over
abbrev pub over : Status → Bool
over Status.fresh = false
over (Status.going l ls) = false
over (Status.satisfied p) = true
over Status.unsatisfiable = true

-- it is over and has found values
abbrev pub is_found : Status → Bool
is_found Status.fresh = false
is_found (Status.going l ls) = false
is_found (Status.satisfied p) = true
is_found Status.unsatisfiable = false

-- the found values
abbrev pub result : Status → List ℕ
result Status.fresh = []
result (Status.going l ls) = []
result (Status.satisfied p) = p
result Status.unsatisfiable = []

-- ---- calls and answers

-- Declare takes an opening set, Post a row's bytes, Solve a budget, Read the caller's buffer.
pub data Call : Type 0 where
  declare : ℕ → Call
  post : List ℕ → Call
  solve : ℕ → Call
  read : List ℕ → Call
  wipe : Call

-- A refusal has its number; `wrote` tells how many values were written, and the buffer as it then
-- is.
pub data Answer : Type 0 where
  done : Answer
  refused : ℕ → Answer
  found : List ℕ → Answer
  none : Answer
  stopped : Answer
  wrote : ℕ → List ℕ → Answer

-- what a caller can hand over: a set is a number of 64 bits, and a byte is below 256
abbrev pub Formed : Call → Type 0
Formed (declare s) = s < 2 ^ 64
Formed (post bs) = Bytes bs
Formed (solve b) = Unit {0}
Formed (read buffer) = Bytes buffer
Formed wipe = Unit {0}

-- ---- refusals

-- The numbers under which a call may be refused, ascending, each with whether it fits.
abbrev pub reasons : Meaning → TableData → Call → List (ℕ × Bool)
reasons m t (declare s) = voice_reasons t.voices s
reasons m t (post bs) = row_reasons m t.voices t.rows bs
reasons m t (solve b) =
    (13, (b == 0) || nat_lt MOST_BUDGET b)
    ∷ (14, not (over t.status) && nat_lt MOST_OPENED (t.opened + b))
    ∷ []
reasons m t (read buffer) =
    (15, not (is_found t.status)) ∷ (16, nat_lt (length buffer) (length (result t.status))) ∷ []
reasons m t wipe = []

-- what becomes of this call
abbrev pub judged : Meaning → TableData → Call → Judgement
judged m t c = judge (reasons m t c)

-- ---- Solve

-- the table after one node more: the status of the search then, and how many levels were exhausted
abbrev pub node_more : TableData → Status → ℕ → TableData
node_more t p n = record {
  voices = t.voices;
  rows = t.rows;
  status = p;
  opened = t.opened + 1;
  exhausted = t.exhausted + n;
}

-- So many nodes, one after the other, none of them after the search is over; over a store with
-- the behaviour b, from one state to another. The last number is how many keys the store lost.
pub data OpensNodes (b : Behaviour) (m : Meaning) : ℕ → TableData → b.State → TableData → b.State
    → ℕ → Type 0 where
  stay : (t : TableData) (s : b.State) → OpensNodes b m zero t s t s 0
  more : (i : ℕ) (t u : TableData) (s r x : b.State) (p : Status) (n k lost : ℕ)
      → Steps b m t.voices t.rows t.status s p r n k
      → OpensNodes b m i (node_more t p n) r u x lost
      → OpensNodes b m (suc i) t s u x (k + lost)

-- a Solve with a budget: at most so many nodes, and fewer only if the search is over; the store
-- loses so many keys
pub record SolveRun (b : Behaviour) (m : Meaning) (budget : ℕ) (t : TableData) (s : b.State)
    (u : TableData) (r : b.State) (lost : ℕ) : Type 0 where
  pub count : ℕ
  pub inside : count ≤ budget
  pub goes : OpensNodes b m count t s u r lost
  pub ends : (over u.status ≡ true) ⊎ (count ≡ budget)

-- Solve's answer where the search has come to this
abbrev pub status_answer : Status → Answer
status_answer Status.fresh = stopped
status_answer (Status.going l ls) = stopped
status_answer (Status.satisfied p) = found p
status_answer Status.unsatisfiable = none

-- ---- what a call does to a table and its store

-- The call, its answer, and the table and the state of the store that it leaves.
pub data Does (b : Behaviour) (m : Meaning) (t : TableData) (s : b.State) : Call → Answer
    → TableData → b.State → Type 0 where
  -- a refused call leaves both as they are
  refuses : (c : Call) (n : ℕ) → judged m t c ≡ refused_under n → Does b m t s c (refused n) t s
  -- Declare, Post and Wipe empty the store, and the search begins again
  declares : (set : ℕ) (r : b.State) → judged m t (declare set) ≡ passes → b.empties s r
      → Does b m t s (declare set) done (fresh_table (t.voices ++ (set ∷ [])) t.rows) r
  posts : (bs : List ℕ) (r : b.State) → judged m t (post bs) ≡ passes → b.empties s r
      → Does b m t s (post bs) done (fresh_table t.voices (t.rows ++ (decode m bs ∷ []))) r
  wipes : (r : b.State) → b.empties s r → Does b m t s wipe done empty r
  -- Solve goes on from where the last one stopped
  solves : (budget : ℕ) (u : TableData) (r : b.State) (lost : ℕ)
      → judged m t (solve budget) ≡ passes
      → SolveRun b m budget t s u r lost → Does b m t s (solve budget) (status_answer u.status) u r
  -- the values at the front of the buffer, and the bytes beyond as they were
  reads : (buffer p : List ℕ) → judged m t (read buffer) ≡ passes → t.status ≡ Status.satisfied p
      → Does b m t s (read buffer) (wrote (length p) (p ++ drop (length p) buffer)) t s

-- How many keys the store has lost since it was emptied, where it had lost n before this call. No
-- table has this count: it follows from what Keep returned.
abbrev pub lost_after : {b : Behaviour} {m : Meaning} {t : TableData} {s : b.State} {c : Call}
    {a : Answer} {u : TableData} {r : b.State} → Does b m t s c a u r → ℕ → ℕ
lost_after (Does.refuses c k j) n = n
lost_after (Does.declares set r j e) n = 0
lost_after (Does.posts bs r j e) n = 0
lost_after (Does.wipes r e) n = 0
lost_after (Does.solves budget u r lost j S) n = n + lost
lost_after (Does.reads buffer p j e) n = n
