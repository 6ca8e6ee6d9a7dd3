-- What a call comes to over a store of one behaviour, and the keys that a search hands to it.
use Rattle.std.specs.Prelude.{◌≡◌, ℕ, false, List}
use Rattle.rows.specs.Rows.{RowData, Meaning}
use Rattle.stores.specs.Keys.{key}
use Rattle.stores.specs.Stores.{is_held, View}
use Rattle.stores.specs.Behaviours.{Behaviour}
use Rattle.search.specs.Search.{Level, Status, BacksUp, Opens, Steps}
use Rattle.search.specs.Calls.{TableData, Call, Answer, Does, lost_after}

-- what a call can come to over this store
pub record CallOutcome (b : Behaviour) (m : Meaning) (t : TableData) (s : b.State)
    (c : Call) : Type 0 where
  pub answer : Answer
  pub table : TableData
  pub state : b.State
  pub does : Does b m t s c answer table state

-- no key is lost in this call
abbrev pub LosesNone : {b : Behaviour} {m : Meaning} {t : TableData} {s : b.State} {c : Call}
    {a : Answer} {u : TableData} {r : b.State} → Does b m t s c a u r → Type 0
LosesNone D = lost_after D 0 ≡ 0

-- where two stores had lost as many keys before these calls, they have lost as many after them
abbrev pub SameLost : {b b' : Behaviour} {m m' : Meaning} {t t' : TableData} {s : b.State}
    {s' : b'.State}
    {c c' : Call} {a a' : Answer} {u u' : TableData} {r : b.State} {r' : b'.State}
    → Does b m t s c a u r → Does b' m' t' s' c' a' u' r' → Type 0
SameLost D D' = (n : ℕ) → lost_after D n ≡ lost_after D' n

-- ---- the keys that go to the store

-- two stores hold the same keys
abbrev pub SameKeys : View → View → Type 0
SameKeys v w = (x : List ℕ) → is_held x v.held ≡ is_held x w.held

-- none of the keys of the nodes that are exhausted in backing up is held when it goes to the store
abbrev pub BacksNew : {b : Behaviour} {m : Meaning} {rows : List RowData} {ls : List Level}
    {s : b.State} {p : Status} {t : b.State} {n k : ℕ} → BacksUp b m rows ls s p t n k → Type 0
BacksNew (BacksUp.root_failed s) = Unit {0}
BacksNew (BacksUp.value_left l ls s z) = Unit {0}
BacksNew {b} {m} {rows} (BacksUp.key_kept l ls s t u p n k z K B) =
    (is_held (key m rows l.sets) (b.view s).held ≡ false) × BacksNew B
BacksNew {b} {m} {rows} (BacksUp.key_lost l ls s t u p n k z K B) =
    (is_held (key m rows l.sets) (b.view s).held ≡ false) × BacksNew B

-- none of those that the opening of a node exhausts
abbrev pub OpensNew : {b : Behaviour} {m : Meaning} {rows : List RowData} {sets : List ℕ}
    {ls : List Level} {s : b.State} {p : Status} {t : b.State} {n k : ℕ}
    → Opens b m rows sets ls s p t n k → Type 0
OpensNew (Opens.finds p h) = Unit {0}
OpensNew (Opens.branches l h) = Unit {0}
OpensNew (Opens.dies p t n k h B) = BacksNew B
OpensNew (Opens.hits p t n k h B) = BacksNew B

-- none of those that one node exhausts
abbrev pub StepsNew : {b : Behaviour} {m : Meaning} {voices : List ℕ} {rows : List RowData}
    {p : Status} {s : b.State} {q : Status} {t : b.State} {n k : ℕ}
    → Steps b m voices rows p s q t n k → Type 0
StepsNew (Steps.opens_root s t p n k O) = OpensNew O
StepsNew (Steps.opens_child l ls s t p n k O) = OpensNew O
