-- What an answer means, and how a call extends every history.
use Rattle.std.specs.Prelude.{ℕ, List, ◌∷◌}
use Rattle.rows.specs.Rows.{Meaning}
use Rattle.stores.specs.Behaviours.{Behaviour}
use Rattle.search.specs.Calls.{TableData, Call, Answer}
use Rattle.search.specs.Calls.Call.{declare, post, solve, read, wipe}
use Rattle.search.specs.Histories.{History, keys_lost, declared_voices, posted_rows}
use Rattle.search.specs.Results.{Invariant, SolveMeans, Reads}

-- what an answer of Read says of the calls before it
abbrev pub ReadMeans : Meaning → List (Call × Answer) → List ℕ → Answer → Type 0
ReadMeans m h buffer Answer.done = Unit {0}
ReadMeans m h buffer (Answer.refused n) = Unit {0}
ReadMeans m h buffer (Answer.found p) = Unit {0}
ReadMeans m h buffer Answer.none = Unit {0}
ReadMeans m h buffer Answer.stopped = Unit {0}
ReadMeans m h buffer (Answer.wrote n b) = Reads m (declared_voices h) (posted_rows m h) buffer n b

-- What an answer says of the voices and rows that the calls before it gave: of Solve, the least
-- lawful placing, or that there is none; of Read, that this placing was written.
abbrev pub AnswerMeans : Meaning → List (Call × Answer) → Call → Answer → Type 0
AnswerMeans m h (declare s) a = Unit {0}
AnswerMeans m h (post bs) a = Unit {0}
AnswerMeans m h (solve b) a = SolveMeans m (declared_voices h) (posted_rows m h) a
AnswerMeans m h (read buffer) a = ReadMeans m h buffer a
AnswerMeans m h wipe a = Unit {0}

-- Whatever the calls were that led to the table t and the state s, from a store in whatever state
-- g: with this call they lead to the table u and the state r; what holds after every history holds
-- then, and the answer is right.
pub record ExtendsHistories (b : Behaviour) (m : Meaning) (t : TableData) (s : b.State) (c : Call)
    (a : Answer) (u : TableData) (r : b.State) : Type 0 where
  pub history : (g : b.State) (h : List (Call × Answer)) → History b m g h t s
      → History b m g ((c, a) ∷ h) u r
  pub invariant : (g : b.State) (h : List (Call × Answer)) (H : History b m g h t s)
      → Invariant m (keys_lost (history g h H)) u (b.view r)
  pub means : (g : b.State) (h : List (Call × Answer)) → History b m g h t s → AnswerMeans m h c a
