-- The cases of calls at both sides of each limit, and of calls that more than one refusal fits,
-- each of which the checker computes; and of histories that reach the limits of a table.
use Rattle.std.specs.Prelude.{◌≡◌, ℕ, List, [], ◌∷◌, ◌++◌, length, replicate, All}
use Rattle.rows.specs.Rows.{RowData}
use Rattle.rows.specs.Bytes.{decode, total_bytes}
use Rattle.search.specs.Search.{Status}
use Rattle.search.specs.Search.Status.{fresh, going, satisfied, unsatisfiable}
use Rattle.rows.specs.Reasons.{Judgement}
use Rattle.search.specs.Calls.{TableData, fresh_table, empty, Call, Answer, judged}
use Rattle.search.specs.Calls.Call.{declare, post, solve, read, wipe}
use Rattle.search.specs.Calls.Answer.{done, refused}
use Rattle.rows.specs.Reasons.Judgement.{passes, refused_under}
use Rattle.cases.specs.CaseRows.{differing}
use Rattle.cases.specs.Tables.{large, first_differ, table_with}
use Rattle.cases.specs.SearchCases.{SearchCase, calls_over, SearchCaseHolds}
use Rattle.rows.specs.declared.limits.TheConstants.{MOST_SHEET, LONGEST_BODY, LONGEST_KEY}

-- ---- what a case says

-- the judgement of this call to this table of the bank A; how many bytes these rows have together;
-- how long these bytes are
pub data CallCase : Type 0 where
  judgement_of : TableData → Call → Judgement → CallCase
  bytes_of : List RowData → ℕ → CallCase
  length_of : List ℕ → ℕ → CallCase

-- what the case says is what comes of it
abbrev pub CallHolds : CallCase → Type 0
CallHolds (judgement_of t c judgement) = judged differing t c ≡ judgement
CallHolds (bytes_of rows bytes) = total_bytes rows ≡ bytes
CallHolds (length_of bs bytes) = length bs ≡ bytes

-- ---- tables

-- so many voices {1,2}, and no rows
abbrev pub with_voices : ℕ → TableData
with_voices n = fresh_table (replicate n 6) []

-- one voice, and so many rows of 6 bytes
abbrev pub with_short_rows : ℕ → TableData
with_short_rows n = fresh_table (6 ∷ []) (replicate n (decode differing (first_differ 1)))

-- 32 voices; 62 rows of 130 bytes, and so many that say that the first k voices differ
abbrev pub long_rows : ℕ → ℕ → List RowData
long_rows n k =
    replicate 62 (decode differing (first_differ 32))
    ++ replicate n (decode differing (first_differ k))

abbrev pub with_long_rows : ℕ → ℕ → TableData
with_long_rows n k = fresh_table (replicate 32 6) (long_rows n k)

-- the table of no voices and no rows, whose search has this status and so many nodes opened
abbrev pub empty_at : Status → ℕ → TableData
empty_at status opened = table_with [] [] status opened 0

-- a search that is not over
abbrev pub unfinished : Status
unfinished = going (record { sets = 6 ∷ []; voice = 0; left = 4 }) []

-- ---- rows of one member: its voice, and its argument's bytes

abbrev pub one_member_row : ℕ → ℕ → ℕ → List ℕ
one_member_row voice low high = 0x41 ∷ 1 ∷ 0x4D ∷ voice ∷ low ∷ high ∷ []

-- two members, of voice 0 both
abbrev pub voice_twice : List ℕ
voice_twice = 0x41 ∷ 2 ∷ 0x4D ∷ 0 ∷ 0 ∷ 0 ∷ 0x4D ∷ 0 ∷ 0 ∷ 0 ∷ []

-- ---- histories that lead to the limits

-- so many voices {1,2}
abbrev pub many_declares : ℕ → List (Call × Answer)
many_declares n = replicate n (declare 6, done)

-- so many rows that say that the first k voices differ
abbrev pub many_posts : ℕ → ℕ → List (Call × Answer)
many_posts n k = replicate n (post (first_differ k), done)

-- 32 voices and 66 rows, of 8,192 bytes
abbrev pub full_history : List (Call × Answer)
full_history = many_posts 1 7 ++ many_posts 3 8 ++ many_posts 62 32 ++ many_declares 32

abbrev pub full_table : TableData
full_table =
    fresh_table (replicate 32 6) (long_rows 3 8 ++ (decode differing (first_differ 7) ∷ []))

-- ---- the cases

abbrev pub refusals : List CallCase
refusals =
    -- Declare: the least and the greatest set that is not empty, and the empty set
    judgement_of empty (declare 1) passes
    ∷ judgement_of empty (declare 0xFFFF_FFFF_FFFF_FFFF) passes
    ∷ judgement_of empty (declare 0) (refused_under 10)
    -- the 80th voice, and one more
    ∷ judgement_of (with_voices 79) (declare 6) passes
    ∷ judgement_of (with_voices 80) (declare 6) (refused_under 11)
    -- an empty set goes before one voice more
    ∷ judgement_of (with_voices 80) (declare 0) (refused_under 10)
    -- Post, the letter: none is there, or one that the bank does not know
    ∷ judgement_of empty (post []) (refused_under 2)
    ∷ judgement_of (with_voices 1) (post (0x42 ∷ 1 ∷ 0x4D ∷ 0 ∷ 0 ∷ 0 ∷ [])) (refused_under 2)
    -- it goes before a count of 0
    ∷ judgement_of empty (post (0x42 ∷ 0 ∷ [])) (refused_under 2)
    -- the count, from 1 to 32: none is there, or it is 0
    ∷ judgement_of empty (post (0x41 ∷ [])) (refused_under 5)
    ∷ judgement_of empty (post (first_differ 0)) (refused_under 5)
    -- it is 1, 32 or 33
    ∷ judgement_of (with_voices 80) (post (first_differ 1)) passes
    ∷ judgement_of (with_voices 80) (post (first_differ 32)) passes
    ∷ judgement_of (with_voices 80) (post (first_differ 33)) (refused_under 5)
    -- it goes before a wrong length
    ∷ judgement_of empty (post (0x41 ∷ 33 ∷ [])) (refused_under 5)
    -- the length: a byte is missing, or one too many is there
    ∷ judgement_of (with_voices 1) (post (0x41 ∷ 1 ∷ 0x4D ∷ 0 ∷ 0 ∷ [])) (refused_under 6)
    ∷ judgement_of (with_voices 1) (post (first_differ 1 ++ (0 ∷ []))) (refused_under 6)
    -- it goes before a wrong mark
    ∷ judgement_of empty (post (0x41 ∷ 1 ∷ 0x4C ∷ 0 ∷ 0 ∷ [])) (refused_under 6)
    -- the mark of each member: of the first, of the second
    ∷ judgement_of (with_voices 1) (post (0x41 ∷ 1 ∷ 0x4C ∷ 0 ∷ 0 ∷ 0 ∷ [])) (refused_under 7)
    ∷ judgement_of (with_voices 2) (post (0x41 ∷ 2 ∷ 0x4D ∷ 0 ∷ 0 ∷ 0 ∷ 0x4E ∷ 1 ∷ 0 ∷ 0 ∷ []))
    (refused_under 7)
    -- it goes before a voice that is not declared
    ∷ judgement_of empty (post (0x41 ∷ 1 ∷ 0x4C ∷ 0 ∷ 1 ∷ 0 ∷ [])) (refused_under 7)
    -- a voice: the last that is declared, and one past it
    ∷ judgement_of (with_voices 3) (post (one_member_row 2 0 0)) passes
    ∷ judgement_of (with_voices 3) (post (one_member_row 3 0 0)) (refused_under 8)
    -- the kind's own rule: an argument of 1 or of -1, a voice that is there twice
    ∷ judgement_of (with_voices 1) (post (one_member_row 0 1 0)) (refused_under 9)
    ∷ judgement_of (with_voices 1) (post (one_member_row 0 0xFF 0xFF)) (refused_under 9)
    ∷ judgement_of (with_voices 1) (post voice_twice) (refused_under 9)
    -- a voice that is not declared goes before a rule that is broken, and before the limits, and
    -- that rule before the limits
    ∷ judgement_of (with_voices 1) (post (one_member_row 1 1 0)) (refused_under 8)
    ∷ judgement_of empty (post voice_twice) (refused_under 8)
    ∷ judgement_of (with_short_rows 120) (post (one_member_row 1 0 0)) (refused_under 8)
    ∷ judgement_of (with_short_rows 120) (post voice_twice) (refused_under 9)
    -- the 120th row, and one more
    ∷ judgement_of (with_short_rows 119) (post (first_differ 1)) passes
    ∷ judgement_of (with_short_rows 120) (post (first_differ 1)) (refused_under 12)
    -- 8,192 bytes: 8,162 and 30 more, 8,162 and 34, 8,164 and 30
    ∷ bytes_of (long_rows 3 8) 8162
    ∷ length_of (first_differ 7) 30
    ∷ judgement_of (with_long_rows 3 8) (post (first_differ 7)) passes
    ∷ judgement_of (with_long_rows 3 8) (post (first_differ 8)) (refused_under 12)
    ∷ bytes_of (long_rows 4 6) 8164
    ∷ judgement_of (with_long_rows 4 6) (post (first_differ 7)) (refused_under 12)
    -- Solve: a budget of 0, 1, 1,000,000 and 1,000,001, and of 0 where the search is over
    ∷ judgement_of empty (solve 0) (refused_under 13)
    ∷ judgement_of empty (solve 1) passes
    ∷ judgement_of empty (solve 1_000_000) passes
    ∷ judgement_of empty (solve 1_000_001) (refused_under 13)
    ∷ judgement_of (empty_at unsatisfiable 1) (solve 0) (refused_under 13)
    -- opened nodes and the budget, at most 1,000,000,000,000 together
    ∷ judgement_of (empty_at unfinished 999_999_000_000) (solve 1_000_000) passes
    ∷ judgement_of (empty_at unfinished 999_999_000_001) (solve 1_000_000) (refused_under 14)
    ∷ judgement_of (empty_at unfinished 999_999_999_999) (solve 1) passes
    ∷ judgement_of (empty_at unfinished 1_000_000_000_000) (solve 1) (refused_under 14)
    -- unless the search is over
    ∷ judgement_of (empty_at unsatisfiable 1_000_000_000_000) (solve 1) passes
    ∷ judgement_of (empty_at (satisfied []) 1_000_000_000_000) (solve 1_000_000) passes
    -- the budget goes before them
    ∷ judgement_of (empty_at unfinished 1_000_000_000_000) (solve 1_000_001) (refused_under 13)
    -- Read: no result yet, or none
    ∷ judgement_of (empty_at fresh 0) (read (7 ∷ 7 ∷ [])) (refused_under 15)
    ∷ judgement_of (empty_at unfinished 1) (read (7 ∷ 7 ∷ [])) (refused_under 15)
    ∷ judgement_of (empty_at unsatisfiable 3) (read (7 ∷ 7 ∷ [])) (refused_under 15)
    -- a buffer that is too short, and those that are long enough
    ∷ judgement_of (empty_at (satisfied (1 ∷ 3 ∷ [])) 2) (read (7 ∷ [])) (refused_under 16)
    ∷ judgement_of (empty_at (satisfied (1 ∷ 3 ∷ [])) 2) (read (7 ∷ 7 ∷ [])) passes
    ∷ judgement_of (empty_at (satisfied []) 1) (read []) passes
    -- Wipe passes always
    ∷ judgement_of (with_voices 80) wipe passes
    ∷ []

-- Each case holds.
abbrev pub RefusalsHold : Type 0
RefusalsHold = All CallHolds refusals

-- histories that reach the limits, and those with one call more
abbrev pub limit_histories : List SearchCase
limit_histories =
    -- 80 voices
    calls_over large (many_declares 80) (with_voices 80) 0 []
    ∷ calls_over large ((declare 6, refused 11) ∷ many_declares 80) (with_voices 80) 0 []
    -- 120 rows
    ∷ calls_over large (many_posts 120 1 ++ many_declares 1) (with_short_rows 120) 0 []
    ∷ calls_over large ((post (first_differ 1), refused 12) ∷ many_posts 120 1
    ++ many_declares 1)
    (with_short_rows 120) 0 []
    -- 8,192 bytes
    ∷ calls_over large full_history full_table 0 []
    ∷ calls_over large ((post (first_differ 1), refused 12) ∷ full_history) full_table 0 []
    ∷ []

-- The limits can be reached, and not passed; those that no table reaches, by their numbers.
pub record LimitsReached : Type 0 where
  pub histories : All SearchCaseHolds limit_histories
  pub bytes_counted : total_bytes full_table.rows ≡ 8192
  pub sheet_bytes : MOST_SHEET ≡ 20000
  pub body_bytes : LONGEST_BODY ≡ 16
  pub key_words : LONGEST_KEY ≡ 320
