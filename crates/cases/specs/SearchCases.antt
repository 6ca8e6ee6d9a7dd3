-- What a case of a search says.
use Rattle.std.specs.Prelude.{◌≡◌, ℕ, List, []}
use Rattle.rows.specs.Rows.{Meaning}
use Rattle.stores.specs.Behaviours.{Behaviour}
use Rattle.stores.specs.Bare as stores
use Rattle.stores.specs.ShelfLaws.{shelf}
use Rattle.search.specs.Calls.{TableData, Call, Answer}
use Rattle.search.specs.Histories.{LeadsTo}
use Rattle.cases.specs.CaseRows.{differing}
use Rattle.cases.specs.Tables.{CaseStore}
use Rattle.cases.specs.Tables.CaseStore.{shelf_of, bare_store}

-- calls over a store, of rows of a bank, each with its answer, the newest first; and what is to
-- come of them: the table, how many keys the store has lost since it was emptied, and the keys that
-- it then holds
pub record SearchCase : Type 0 where
  pub store : CaseStore
  pub bank : Meaning
  pub calls : List (Call × Answer)
  pub table : TableData
  pub lost : ℕ
  pub keys : List (List ℕ)

-- the case of calls over this store, of rows of the bank A
abbrev pub calls_over : CaseStore → List (Call × Answer) → TableData → ℕ → List (List ℕ)
    → SearchCase
calls_over store calls table lost keys =
    record
    { store = store; bank = differing; calls = calls; table = table; lost = lost; keys = keys }

-- over a store with this behaviour that Make got in the state g, the calls, so answered, lead to
-- this table with so many keys lost, and the store then holds these keys
pub record SearchHolds (b : Behaviour) (g : b.State) (c : SearchCase) : Type 0 where
  pub state : b.State
  pub history : LeadsTo b c.bank g c.calls c.table state c.lost
  pub holds : (b.view state).held ≡ c.keys

-- a shelf that may use so many words and holds no key, or the bare store
abbrev pub SearchHoldsOver : CaseStore → SearchCase → Type 0
SearchHoldsOver (shelf_of words) c = SearchHolds shelf (record { held = []; room = words }) c
SearchHoldsOver bare_store c = SearchHolds stores.bare tt c

-- over its store, the calls of the case come to its table and keys
abbrev pub SearchCaseHolds : SearchCase → Type 0
SearchCaseHolds c = SearchHoldsOver c.store c
