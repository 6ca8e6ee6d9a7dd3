-- Histories of calls, and the voices and rows that they have given.
use Rattle.std.specs.Prelude.{◌≡◌, ℕ, Bool, true, false, cond, List, [], ◌∷◌, ◌++◌, map}
use Rattle.rows.specs.Rows.{RowData, Meaning}
use Rattle.rows.specs.Bytes.{decode}
use Rattle.stores.specs.Behaviours.{Behaviour}
use Rattle.search.specs.Calls.{TableData, empty, Call, Answer, Formed, Does, lost_after}
use Rattle.search.specs.Calls.Call.{declare, post, solve, read, wipe}

-- What was called and answered, the newest first, since Make gave an empty table over a store in
-- the state g, which it emptied; and the table and the state that it led to.
pub data History (b : Behaviour) (m : Meaning) (g : b.State) : List (Call × Answer) → TableData
    → b.State → Type 0 where
  made : (s : b.State) → b.empties g s → History b m g [] empty s
  then : (h : List (Call × Answer)) (t u : TableData) (s r : b.State) (c : Call) (a : Answer)
      → History b m g h t s → Formed c → Does b m t s c a u r
      → History b m g ((c, a) ∷ h) u r

-- how many keys the store has lost since it was last emptied
abbrev pub keys_lost : {b : Behaviour} {m : Meaning} {g : b.State} {h : List (Call × Answer)}
    {t : TableData} {s : b.State} → History b m g h t s → ℕ
keys_lost (History.made s e) = 0
keys_lost (History.then h t u s r c a H f D) = lost_after D (keys_lost H)

-- these calls lead to the table t and the state s, in which the store has lost so many keys
abbrev pub LeadsTo : (b : Behaviour) (m : Meaning) (g : b.State) (h : List (Call × Answer))
    → TableData → b.State → ℕ → Type 0
LeadsTo b m g h t s lost = (H : History b m g h t s) × (keys_lost H ≡ lost)

-- the calls of a history
abbrev pub calls_in : List (Call × Answer) → List Call
calls_in h = map (λ x. x.0) h

-- a Declare, a Post or a Wipe was accepted
abbrev pub is_done : Answer → Bool
is_done Answer.done = true
is_done (Answer.refused n) = false
is_done (Answer.found p) = false
is_done Answer.none = false
is_done Answer.stopped = false
is_done (Answer.wrote n b) = false

-- the opening sets of the voices that the calls have declared, by calls and answers alone
abbrev pub declared_voices : List (Call × Answer) → List ℕ
declared_voices [] = []
declared_voices ((declare s, a) ∷ h) =
    cond (is_done a) (declared_voices h ++ (s ∷ [])) (declared_voices h)
declared_voices ((post bs, a) ∷ h) = declared_voices h
declared_voices ((solve b, a) ∷ h) = declared_voices h
declared_voices ((read b, a) ∷ h) = declared_voices h
declared_voices ((wipe, a) ∷ h) = []

-- and the rows that they have posted
abbrev pub posted_rows : Meaning → List (Call × Answer) → List RowData
posted_rows m [] = []
posted_rows m ((declare s, a) ∷ h) = posted_rows m h
posted_rows m ((post bs, a) ∷ h) =
    cond (is_done a) (posted_rows m h ++ (decode m bs ∷ [])) (posted_rows m h)
posted_rows m ((solve b, a) ∷ h) = posted_rows m h
posted_rows m ((read b, a) ∷ h) = posted_rows m h
posted_rows m ((wipe, a) ∷ h) = []
