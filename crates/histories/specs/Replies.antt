-- What holds of calls made one after the other on a new table, and of two such histories.
use Rattle.std.specs.Prelude.{◌≡◌, ℕ, ◌<◌, true, ◌↔◌, List, [], ◌∷◌, length, take, reverse, slice_index_or}
use Rattle.rows.specs.Rows.{Meaning}
use Rattle.stores.specs.Behaviours.{Behaviour}
use Rattle.search.specs.Calls.{TableData, Call, Answer}
use Rattle.search.specs.Calls.Call.{solve, wipe}
use Rattle.search.specs.Calls.Answer.{done}
use Rattle.search.specs.Histories.{History, keys_lost, declared_voices, posted_rows}
use Rattle.rows.specs.Placed.{SameLeast}
use Rattle.search.specs.Results.{Invariant, finished}
use Rattle.table.specs.CallLaws.{AnswerMeans}
use Rattle.histories.specs.declared.call.TableCall.{TableCall}
use Rattle.histories.specs.declared.reply.Progress.{Progress}
use Rattle.histories.specs.declared.reply.Reply.{Reply}
use Rattle.histories.specs.CallViews.{calls_of, answers_of, progresses_of, progress_of}

-- the calls with their answers, newest first, and then those of h
abbrev pub paired_onto : List (Call × Answer) → List Call → List Answer → List (Call × Answer)
paired_onto h [] answers = h
paired_onto h (c ∷ calls) [] = h
paired_onto h (c ∷ calls) (a ∷ answers) = paired_onto ((c, a) ∷ h) calls answers

-- the calls with their answers, newest first
abbrev pub paired : List Call → List Answer → List (Call × Answer)
paired calls answers = paired_onto [] calls answers

-- the first n of them
abbrev pub first_paired : ℕ → List Call → List Answer → List (Call × Answer)
first_paired n calls answers = paired (take n calls) (take n answers)

-- the progress of the search after each call of a history, newest first
abbrev pub progress_after : {b : Behaviour} {m : Meaning} {g : b.State}
    {h : List (Call × Answer)} {t : TableData} {s : b.State} → History b m g h t s → List Progress
progress_after (History.made s e) = []
progress_after (History.then h t u s r c a H f d) = progress_of u ∷ progress_after H

-- Over a store with the behaviour b, in the state in which it was given:

-- the table, and the state of the store, that a history led to, the progress after each of its
-- calls, and what holds then
pub record Reached (b : Behaviour) (m : Meaning) (given : b.State) (h : List (Call × Answer))
    (shown : List Progress) : Type 0 where
  pub table : TableData
  pub state : b.State
  pub history : History b m given h table state
  pub counted : progress_after history ≡ reverse shown
  pub invariant : Invariant m (keys_lost history) table (b.view state)

-- these answers were given to these calls, made one after the other on a new table, with this
-- progress after each
pub record Played (b : Behaviour) (m : Meaning) (given : b.State) (calls : List Call)
    (answers : List Answer) (shown : List Progress) : Type 0 where
  -- each call has an answer and a progress
  pub answered : length answers ≡ length calls
  pub progressed : length shown ≡ length calls
  -- all calls together, and the first n of them, led to a table of which all holds that holds after
  -- a history
  pub reached : Reached b m given (paired calls answers) shown
  pub each_reached : (n : ℕ) → Reached b m given (first_paired n calls answers) (take n shown)
  -- each answer says what it must of the voices and rows that the calls before it gave
  pub means : (n : ℕ) → n < length calls
      → AnswerMeans m (first_paired n calls answers) (slice_index_or calls n wipe)
      (slice_index_or answers n done)

-- Of two histories: any result of a Solve in the one and any in the other are equal exactly when
-- the tables, as they were then, have the same least lawful placing or neither has any.
abbrev pub Agreed : Meaning → List Call → List Answer → Meaning → List Call → List Answer → Type 0
Agreed m calls answers m' calls' answers' = (n n' b b' : ℕ)
    → slice_index_or calls n wipe ≡ solve b → slice_index_or calls' n' wipe ≡ solve b'
    → finished (slice_index_or answers n done) ≡ true
    → finished (slice_index_or answers' n' done) ≡ true
    → (slice_index_or answers n done ≡ slice_index_or answers' n' done)
    ↔ SameLeast
    m (declared_voices (first_paired n calls answers))
    (posted_rows m (first_paired n calls answers))
    m' (declared_voices (first_paired n' calls' answers'))
    (posted_rows m' (first_paired n' calls' answers'))

-- ---- the same of the code's calls and replies

abbrev pub Replied : (b : Behaviour) → Meaning → b.State → List TableCall → List Reply → Type 0
Replied b m given calls replies =
    Played b m given (calls_of calls) (answers_of replies) (progresses_of replies)

abbrev pub RepliesAgree : Meaning → List TableCall → List Reply
    → Meaning → List TableCall → List Reply → Type 0
RepliesAgree m calls replies m' calls' replies' =
    Agreed m (calls_of calls) (answers_of replies) m' (calls_of calls') (answers_of replies')
