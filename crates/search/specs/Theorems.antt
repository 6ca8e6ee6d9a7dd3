-- What is proved of the search and of the calls, over every bank and every store.
use Rattle.std.specs.Prelude.{◌≡◌, ℕ, ◌<◌, true, false, ◌↔◌, List, ◌∷◌, ◌++◌, length}
use Rattle.sets.specs.Placings.{some_empty, all_fixed, values, Proper}
use Rattle.rows.specs.Rows.{RowData, Meaning}
use Rattle.rows.specs.Laws.{Laws}
use Rattle.stores.specs.Keys.{key}
use Rattle.stores.specs.Behaviours.{Behaviour}
use Rattle.search.specs.Propagation.{propagated}
use Rattle.search.specs.Search.{Status, Level, Steps}
use Rattle.rows.specs.Placed.{AllAccepted, Lawful, SameLeast}
use Rattle.rows.specs.Reasons.{Judgement}
use Rattle.search.specs.Calls.{TableData, Call, Answer, reasons, judged, over, OpensNodes, Does}
use Rattle.search.specs.Calls.Call.{solve, read}
use Rattle.search.specs.Histories.{History, keys_lost, calls_in, declared_voices, posted_rows}
use Rattle.search.specs.Results.{Propagates, Projects, Invariant, Limited, SolveMeans, finished, Reads, Budgeted, reason_fits}
use Rattle.search.specs.Branching.{TableLowest, Rising}
use Rattle.search.specs.CallOutcomes.{CallOutcome, LosesNone, SameLost, SameKeys, StepsNew}

-- ---- propagation and keys

-- Propagation takes only values out that no placing uses for which all rows hold, and ends where no
-- turn changes anything, or with an empty set.
abbrev pub PropagationSound : Type 0
PropagationSound =
    (m : Meaning) → Laws m → (rows : List RowData) (s : List ℕ) → AllAccepted m rows (length s)
    → Proper s
    → Propagates m rows s (propagated m rows s)

-- Where propagation leaves every voice fixed and no set empty, the values are a lawful placing, and
-- the only one.
abbrev pub FixedSolves : Type 0
FixedSolves =
    (m : Meaning) → Laws m → (rows : List RowData) (s : List ℕ) → AllAccepted m rows (length s)
    → Proper s
    → some_empty (propagated m rows s) ≡ false → all_fixed (propagated m rows s) ≡ true
    → Lawful m s rows (values (propagated m rows s))
    × ((q : List ℕ) → Lawful m s rows q → q ≡ values (propagated m rows s))

-- Two lists of sets with the same key have the same lawful fillings of their open voices.
abbrev pub KeysProject : Type 0
KeysProject =
    (m : Meaning) → Laws m → (rows : List RowData) (s t : List ℕ) → AllAccepted m rows (length s)
    → Proper s → Proper t
    → key m rows s ≡ key m rows t → Projects m rows s t

-- ---- the search, over a store with the behaviour b, which was in the state g when the table was
-- made

-- What holds after every history: a found result is the least lawful placing, none says that there
-- is none, keys and nodes are counted right.
abbrev pub InvariantHolds : Behaviour → Type 0
InvariantHolds b = (m : Meaning) → Laws m → (g : b.State) (h : List (Call × Answer)) (t : TableData)
    (s : b.State) (H : History b m g h t s) → Invariant m (keys_lost H) t (b.view s)

-- After every history, and after each node that a Solve then opens: levels and nodes branch on the
-- lowest voice that is not fixed.
abbrev pub BranchesLowest : Behaviour → Type 0
BranchesLowest b =
    (m : Meaning) → Laws m → (g : b.State) (h : List (Call × Answer)) (t : TableData) (s : b.State)
    → History b m g h t s
    → (n lost : ℕ) (u : TableData) (r : b.State) → OpensNodes b m n t s u r lost
    → TableLowest m u (b.view r)

-- So much is known of the levels with no law of the bank: the voices ascend strictly, and each is
-- one of its node's.
abbrev pub LevelsRise : Behaviour → Type 0
LevelsRise b =
    (m : Meaning) (g : b.State) (h : List (Call × Answer)) (t : TableData) (s : b.State)
    → History b m g h t s
    → (n lost : ℕ) (u : TableData) (r : b.State) → OpensNodes b m n t s u r lost
    → (l : Level) (ls : List Level) → u.status ≡ Status.going l ls → Rising (l ∷ ls)

-- A key that goes to the store when a node is exhausted is not held already, at every node that a
-- Solve opens after any history.
abbrev pub NeverTwice : Behaviour → Type 0
NeverTwice b =
    (m : Meaning) → Laws m → (g : b.State) (h : List (Call × Answer)) (t : TableData) (s : b.State)
    → History b m g h t s
    → (n lost : ℕ) (u : TableData) (r : b.State) → OpensNodes b m n t s u r lost
    → (p : Status) (x : b.State) (i k : ℕ) (S : Steps b m u.voices u.rows u.status r p x i k)
    → StepsNew S

-- ---- answers

-- Wherever in a history Solve answered: found p, then p is the least lawful placing of the voices
-- and rows given before it; none, then there is none.
abbrev pub AnswersHold : Behaviour → Type 0
AnswersHold b =
    (m : Meaning) → Laws m
    → (g : b.State) (later before : List (Call × Answer)) (budget : ℕ) (a : Answer)
    → (t : TableData) (s : b.State)
    → History b m g (later ++ ((solve budget, a) ∷ before)) t s
    → SolveMeans m (declared_voices before) (posted_rows m before) a

-- Wherever Read wrote: the least lawful placing of the voices and rows given before it.
abbrev pub ReadsHold : Behaviour → Type 0
ReadsHold b =
    (m : Meaning) → Laws m
    → (g : b.State) (later before : List (Call × Answer)) (buffer : List ℕ) (n : ℕ) (left : List ℕ)
    → (t : TableData) (s : b.State)
    → History b m g (later ++ ((read buffer, Answer.wrote n left) ∷ before)) t s
    → Reads m (declared_voices before) (posted_rows m before) buffer n left

-- A table's voices and rows are those that its calls have given.
abbrev pub TablesGiven : Behaviour → Type 0
TablesGiven b =
    (m : Meaning) (g : b.State) (h : List (Call × Answer)) (t : TableData) (s : b.State)
    → History b m g h t s → (t.voices ≡ declared_voices h) × (t.rows ≡ posted_rows m h)

-- Two results of Solve, anywhere in two histories over any banks and stores, are equal exactly when
-- the two tables have the same least lawful placing or neither has any.
abbrev pub ResultsAgree : Behaviour → Behaviour → Type 0
ResultsAgree b b' =
    (m m' : Meaning) → Laws m → Laws m'
    → (g : b.State) (g' : b'.State) (later later' h h' : List (Call × Answer)) (budget budget' : ℕ)
    → (a a' : Answer)
    (t t' : TableData) (s : b.State) (s' : b'.State)
    → History b m g (later ++ ((solve budget, a) ∷ h)) t s
    → History b' m' g' (later' ++ ((solve budget', a') ∷ h')) t' s' → finished a ≡ true
    → finished a' ≡ true
    → (a ≡ a')
    ↔ SameLeast m (declared_voices h) (posted_rows m h) m' (declared_voices h') (posted_rows m' h')

-- An accepted Solve opens at most its budget, and says stopped exactly when it opened that many and
-- the search is not over.
abbrev pub SolveKeepsBudget : Behaviour → Type 0
SolveKeepsBudget b =
    (m : Meaning) (t : TableData) (s : b.State) (budget : ℕ) (a : Answer) (u : TableData)
    (r : b.State)
    → judged m t (solve budget) ≡ Judgement.passes → Does b m t s (solve budget) a u r
    → Budgeted t budget a u × (over t.status ≡ true → r ≡ s)

-- A call is refused under the smallest number that fits, and passes exactly when none does.
abbrev pub RefusalsSmallest : Type 0
RefusalsSmallest = (m : Meaning) (t : TableData) (c : Call)
    → ((n : ℕ) → (judged m t c ≡ Judgement.refused_under n)
    ↔ ((reason_fits n (reasons m t c) ≡ true)
    × ((k : ℕ) → k < n → reason_fits k (reasons m t c) ≡ false)))
    × ((judged m t c ≡ Judgement.passes) ↔ ((k : ℕ) → reason_fits k (reasons m t c) ≡ false))

-- No history passes the limits of a table.
abbrev pub LimitsHold : Behaviour → Type 0
LimitsHold b =
    (m : Meaning) (g : b.State) (h : List (Call × Answer)) (t : TableData) (s : b.State)
    → History b m g h t s → Limited m t

-- ---- stores

-- Over a store of which nothing is open, every call comes to something, and to one thing only: one
-- answer, one table, one state of the store, and one number of keys lost.
abbrev pub OneOutcome : Behaviour → Type 0
OneOutcome b = (m : Meaning) (t : TableData) (s : b.State) (c : Call)
    → CallOutcome b m t s c
    × ((x y : CallOutcome b m t s c)
    → (x.answer ≡ y.answer) × (x.table ≡ y.table) × (x.state ≡ y.state) × SameLost x.does y.does)

-- So any two histories with the same calls, over such a store in the same state, have the same
-- answers and lead to the same table, counts and all, and the same state of the store, which has
-- lost as many keys in the one as in the other.
abbrev pub OneHistory : Behaviour → Type 0
OneHistory b = (m : Meaning) (g : b.State) (h h' : List (Call × Answer)) (t t' : TableData)
    (s s' : b.State) (H : History b m g h t s) (H' : History b m g h' t' s')
    → calls_in h ≡ calls_in h' → (h ≡ h') × (t ≡ t') × (s ≡ s') × (keys_lost H ≡ keys_lost H')

-- Over any two stores that hold the same keys and lose none in this call, a call has the same
-- answer and leaves the same table, counts and all, and the same keys; and where both stores had
-- lost as many keys before it, they have lost as many after it. (A call other than Solve loses
-- none.)
abbrev pub StoresAgree : Behaviour → Behaviour → Type 0
StoresAgree b b' = (m : Meaning) (t : TableData) (s : b.State) (s' : b'.State) (c : Call)
    (a a' : Answer) (u u' : TableData) (r : b.State) (r' : b'.State)
    → SameKeys (b.view s) (b'.view s')
    → (D : Does b m t s c a u r) (D' : Does b' m t s' c a' u' r') → LosesNone D → LosesNone D'
    → (a ≡ a') × (u ≡ u') × SameKeys (b.view r) (b'.view r') × SameLost D D'
