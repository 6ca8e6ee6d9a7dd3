-- Searches from Make on, each of which the checker computes. A set is written as a number: {1,2} is
-- 6, {1,3} is 10, {3,4} is 24. The newest call comes first; the last two numbers of a table are
-- the nodes opened and those exhausted, and the number behind it is how many keys were lost.
use Rattle.std.specs.Prelude.{ℕ, List, [], ◌∷◌, All}
use Rattle.search.specs.Search.{Level, Status}
use Rattle.search.specs.Search.Status.{fresh, going}
use Rattle.search.specs.Calls.{TableData, Call, Answer}
use Rattle.search.specs.Calls.Call.{declare, post, solve, read, wipe}
use Rattle.search.specs.Calls.Answer.{done, refused, found, none, stopped, wrote}
use Rattle.cases.specs.CaseRows.{differs_2, differs_3, differs_5}
use Rattle.cases.specs.Tables.{large, first_differ, table_with}
use Rattle.cases.specs.Tables.CaseStore.{shelf_of, bare_store}
use Rattle.cases.specs.SearchCases.{SearchCase, calls_over, SearchCaseHolds}

-- ---- three voices {1,2} that differ

abbrev pub three_posted : List (Call × Answer)
three_posted =
    (post (first_differ 3), done) ∷ (declare 6, done) ∷ (declare 6, done) ∷ (declare 6, done) ∷ []

abbrev pub three_at : Status → ℕ → ℕ → TableData
three_at status opened exhausted =
    table_with (6 ∷ 6 ∷ 6 ∷ []) (differs_3 ∷ []) status opened exhausted

-- the root, with its value 2 left to try
abbrev pub three_root : Level
three_root = record { sets = 6 ∷ 6 ∷ 6 ∷ []; voice = 0; left = 4 }

-- ---- {1,2} {1,2} {3,4} {3,4} {3,4} that differ

abbrev pub five_posted : List (Call × Answer)
five_posted =
    (post (first_differ 5), done)
    ∷ (declare 24, done) ∷ (declare 24, done) ∷ (declare 24, done)
    ∷ (declare 6, done) ∷ (declare 6, done) ∷ []

abbrev pub five_at : Status → ℕ → ℕ → TableData
five_at status opened exhausted =
    table_with (6 ∷ 6 ∷ 24 ∷ 24 ∷ 24 ∷ []) (differs_5 ∷ []) status opened exhausted

-- ---- {1,3} {1,3} that differ

abbrev pub two_posted : List (Call × Answer)
two_posted = (post (first_differ 2), done) ∷ (declare 10, done) ∷ (declare 10, done) ∷ []

abbrev pub two_at : Status → ℕ → ℕ → TableData
two_at status opened exhausted =
    table_with (10 ∷ 10 ∷ []) (differs_2 ∷ []) status opened exhausted

-- solved with 1 node, read too early, solved, solved again, read into a buffer that is too short
-- and into a longer one
abbrev pub two_read : List (Call × Answer)
two_read =
    (read (7 ∷ 8 ∷ 9 ∷ []), wrote 2 (1 ∷ 3 ∷ 9 ∷ []))
    ∷ (read (7 ∷ []), refused 16)
    ∷ (solve 9, found (1 ∷ 3 ∷ []))
    ∷ (solve 9, found (1 ∷ 3 ∷ []))
    ∷ (read (7 ∷ 8 ∷ 9 ∷ []), refused 15)
    ∷ (solve 1, stopped)
    ∷ two_posted

-- ---- keys

-- Of three voices. A key has a word for each voice, 0 where it is fixed; then the row's mark, 1 as
-- it is open, and the values that its fixed voices have.
abbrev pub three_key : List ℕ
three_key = 6 ∷ 6 ∷ 6 ∷ 1 ∷ 0 ∷ []

-- of both children of the root, and the root's
abbrev pub child_key : List ℕ
child_key = 0 ∷ 0 ∷ 24 ∷ 24 ∷ 24 ∷ 1 ∷ 6 ∷ []

abbrev pub root_key : List ℕ
root_key = 6 ∷ 6 ∷ 24 ∷ 24 ∷ 24 ∷ 1 ∷ 0 ∷ []

-- ---- the cases

abbrev pub searches : List SearchCase
searches =
    -- three voices cannot differ with two values: over a large shelf, and over the bare store
    calls_over large ((solve 9, none) ∷ three_posted) (three_at Status.unsatisfiable 3 1) 0
    (three_key ∷ [])
    ∷ calls_over bare_store ((solve 9, none) ∷ three_posted) (three_at Status.unsatisfiable 3 1) 1
    []
    -- a budget of just as many nodes ends the search; one of 2 stops after the first child, and 1
    -- more ends it with the same counts
    ∷ calls_over large ((solve 3, none) ∷ three_posted) (three_at Status.unsatisfiable 3 1) 0
    (three_key ∷ [])
    ∷ calls_over large ((solve 2, stopped) ∷ three_posted) (three_at (going three_root []) 2 0) 0 []
    ∷ calls_over large ((solve 1, none) ∷ (solve 2, stopped) ∷ three_posted)
    (three_at Status.unsatisfiable 3 1) 0
    (three_key ∷ [])
    -- both children of the root have one key: a store that holds it saves the search of the second
    ∷ calls_over large ((solve 9, none) ∷ five_posted) (five_at Status.unsatisfiable 5 2) 0
    (child_key ∷ root_key ∷ [])
    ∷ calls_over bare_store ((solve 9, none) ∷ five_posted) (five_at Status.unsatisfiable 7 3) 3 []
    -- room for one key is enough, and a word less is not
    ∷ calls_over (shelf_of 8) ((solve 9, none) ∷ five_posted) (five_at Status.unsatisfiable 5 2) 1
    (child_key ∷ [])
    ∷ calls_over (shelf_of 7) ((solve 9, none) ∷ five_posted) (five_at Status.unsatisfiable 7 3) 3
    []
    -- the empty table has one placing, of no values, and it can be read
    ∷ calls_over large ((solve 9, found []) ∷ []) (table_with [] [] (Status.satisfied []) 1 0) 0 []
    ∷ calls_over bare_store ((solve 9, found []) ∷ [])
    (table_with [] [] (Status.satisfied []) 1 0) 0 []
    ∷ calls_over large ((read [], wrote 0 []) ∷ (solve 1, found []) ∷ [])
    (table_with [] [] (Status.satisfied []) 1 0) 0 []
    -- the least placing of two voices: over a large shelf, and over the bare store
    ∷ calls_over large ((solve 9, found (1 ∷ 3 ∷ [])) ∷ two_posted)
    (two_at (Status.satisfied (1 ∷ 3 ∷ [])) 2 0) 0 []
    ∷ calls_over bare_store ((solve 9, found (1 ∷ 3 ∷ [])) ∷ two_posted)
    (two_at (Status.satisfied (1 ∷ 3 ∷ [])) 2 0) 0 []
    -- it is found again and read with no further node, and a refused call changes nothing
    ∷ calls_over large two_read (two_at (Status.satisfied (1 ∷ 3 ∷ [])) 2 0) 0 []
    ∷ calls_over large ((declare 0, refused 10) ∷ two_read)
    (two_at (Status.satisfied (1 ∷ 3 ∷ [])) 2 0) 0 []
    -- another voice begins the search again, and so does a wipe
    ∷ calls_over large ((declare 6, done) ∷ two_read)
    (table_with (10 ∷ 10 ∷ 6 ∷ []) (differs_2 ∷ []) fresh 0 0) 0 []
    ∷ calls_over large ((wipe, done) ∷ two_read) (table_with [] [] fresh 0 0) 0 []
    -- another row begins the search again and empties the store
    ∷ calls_over large ((post (first_differ 2), done) ∷ (solve 9, none) ∷ five_posted)
    (table_with (6 ∷ 6 ∷ 24 ∷ 24 ∷ 24 ∷ []) (differs_5 ∷ differs_2 ∷ []) fresh 0 0) 0 []
    ∷ []

-- Each case holds.
abbrev pub SearchesHold : Type 0
SearchesHold = All SearchCaseHolds searches
