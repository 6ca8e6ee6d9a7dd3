-- What propagation, the state of a search and the answers of its calls say of the placings.
use Rattle.std.specs.Prelude.{◌≡◌, ℕ, ◌+◌, ◌*◌, ◌<◌, ◌≤◌, Bool, true, false, ◌&&◌, ◌||◌, ◌↔◌, List, [], ◌∷◌, length, take, drop, Option, is_some, IfSome, ◌==◌}
use Rattle.sets.specs.Placings.{some_empty, Proper, Within, Narrower}
use Rattle.std.specs.List.{list_all}
use Rattle.rows.specs.Rows.{RowData, Meaning}
use Rattle.rows.specs.Laws.{Alike, Agree}
use Rattle.rows.specs.Views.{rows_of}
use Rattle.rows.specs.declared.row.Row.{Row}
use Rattle.rows.specs.Bytes.{Bytes, LaidOut, total_bytes}
use Rattle.stores.specs.Stores.{View, distinct_keys}
use Rattle.rows.specs.declared.limits.TheConstants.{MOST_VOICES, MOST_ROWS, MOST_BYTES, MOST_OPENED}
use Rattle.search.specs.Propagation.{round, rounds, size}
use Rattle.search.specs.Search.{Status}
use Rattle.rows.specs.Placed.{AllHold, Least, Lawless}
use Rattle.search.specs.Calls.{TableData, Answer, over, status_answer}

-- ---- propagation

-- no row's turn changes the sets
abbrev pub Stable : Meaning → List RowData → List ℕ → Type 0
Stable m [] s = Unit {0}
Stable m (r ∷ rows) s = (m.turn r s ≡ s) × Stable m rows s

-- What is left of the sets s by a round of these rows that was run, and its answer: whether another
-- is due, and from which row on none changes the sets that are left.
pub record RoundDone (m : Meaning) (rows : List Row) (s : List ℕ) (due : Option ℕ)
    (t : List ℕ) : Type 0 where
  pub after : t ≡ (round m (rows_of rows) s).sets
  pub value : is_some due ≡ (round m (rows_of rows) s).again
  pub rest : IfSome due (λ k. Stable m (rows_of (drop k rows)) t)

-- the sets t are what propagation may leave of the sets s
pub record Propagates (m : Meaning) (rows : List RowData) (s t : List ℕ) : Type 0 where
  -- it only takes values out, and none that a placing uses for which all rows hold
  pub narrower : Narrower t s
  pub keeps : (p : List ℕ) → Within p s → AllHold m rows p → Within p t
  -- where no set is empty then, no turn changes anything any more
  pub ends : some_empty t ≡ false → Proper t × Stable m rows t
  -- as many rounds as there are values, and one, are enough: more change nothing
  pub enough : (n : ℕ) → size s < n → rounds m rows n s ≡ t

-- ---- keys

-- what two lists of sets with the same key share
pub record Projects (m : Meaning) (rows : List RowData) (s t : List ℕ) : Type 0 where
  -- the same voices are fixed, and the other sets are the same
  pub alike : Alike s t
  -- the rows hold for the same values of the other voices
  pub same_fillings : (p q : List ℕ) → Within p s → Within q t → Agree s p q
      → list_all (λ r. m.holds r p) rows ≡ list_all (λ r. m.holds r q) rows
  -- so where the first have no lawful placing, neither have the second
  pub both_fail : Lawless m s rows → Lawless m t rows

-- ---- a table and its store

-- what a table and its store say, whatever the calls were, where the store has lost so many keys
-- since it was emptied
pub record Invariant (m : Meaning) (lost : ℕ) (t : TableData) (v : View) : Type 0 where
  -- what a finished search has found is the least lawful placing; where it has found none, there is
  -- none
  pub found_least : (p : List ℕ) → t.status ≡ Status.satisfied p → Least m t.voices t.rows p
  pub none_lawful : t.status ≡ Status.unsatisfiable → Lawless m t.voices t.rows
  -- a store that has lost no key holds as many as nodes were exhausted
  pub all_kept : lost ≡ 0 → length v.held ≡ t.exhausted
  -- no key occurs twice
  pub distinct : distinct_keys v.held ≡ true
  -- no node has more than 64 children
  pub bounded : t.opened ≤ 1 + 64 * (t.exhausted + length t.voices)

-- every row has the bank's layout
abbrev pub AllLaidOut : Meaning → List RowData → Type 0
AllLaidOut m [] = Unit {0}
AllLaidOut m (r ∷ rows) = LaidOut m r × AllLaidOut m rows

-- a table within its limits
pub record Limited (m : Meaning) (t : TableData) : Type 0 where
  pub voices : length t.voices ≤ MOST_VOICES
  pub sets : Proper t.voices
  pub rows : length t.rows ≤ MOST_ROWS
  pub bytes : total_bytes t.rows ≤ MOST_BYTES
  pub laid_out : AllLaidOut m t.rows
  pub opened : t.opened ≤ MOST_OPENED

-- ---- answers

-- what an answer of Solve says of these voices and rows
abbrev pub SolveMeans : Meaning → List ℕ → List RowData → Answer → Type 0
SolveMeans m voices rows Answer.done = ⊥
SolveMeans m voices rows (Answer.refused n) = Unit {0}
SolveMeans m voices rows (Answer.found p) = Least m voices rows p
SolveMeans m voices rows Answer.none = Lawless m voices rows
SolveMeans m voices rows Answer.stopped = Unit {0}
SolveMeans m voices rows (Answer.wrote n b) = ⊥

-- a result: found and the values, or none
abbrev pub finished : Answer → Bool
finished Answer.done = false
finished (Answer.refused n) = false
finished (Answer.found p) = true
finished Answer.none = true
finished Answer.stopped = false
finished (Answer.wrote n b) = false

-- what a Read wrote: as many values as there are voices, the least lawful placing, and the rest of
-- the buffer as it was
pub record Reads (m : Meaning) (voices : List ℕ) (rows : List RowData) (buffer : List ℕ) (n : ℕ)
    (b : List ℕ) : Type 0 where
  pub many : n ≡ length voices
  pub least : Least m voices rows (take n b)
  pub beyond : drop n b ≡ drop n buffer
  pub long : length b ≡ length buffer
  pub bytes : Bytes b

-- an accepted Solve with this budget
pub record Budgeted (t : TableData) (budget : ℕ) (a : Answer) (u : TableData) : Type 0 where
  -- it opens at most the budget, and says stopped exactly when it opened that many and the search
  -- is not over
  pub at_least : t.opened ≤ u.opened
  pub at_most : u.opened ≤ t.opened + budget
  pub stopped_exactly : (a ≡ Answer.stopped)
      ↔ ((u.opened ≡ t.opened + budget) × (over u.status ≡ false))
  -- its answer is what it finished with, and no voice or row is altered
  pub answer : a ≡ status_answer u.status
  pub same_voices : u.voices ≡ t.voices
  pub same_rows : u.rows ≡ t.rows
  -- a finished table repeats its result
  pub repeats : over t.status ≡ true → u ≡ t

-- the number n is one of a call's refusals that fit
abbrev pub reason_fits : ℕ → List (ℕ × Bool) → Bool
reason_fits n [] = false
reason_fits n ((k, f) ∷ others) = (n == k && f) || reason_fits n others
