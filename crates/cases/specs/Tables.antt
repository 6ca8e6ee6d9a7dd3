-- The stores, the bytes of rows and the tables of the cases.
use Rattle.std.specs.Prelude.{ℕ, zero, suc, List, [], ◌∷◌}
use Rattle.rows.specs.Rows.{RowData}
use Rattle.search.specs.Search.{Status}
use Rattle.search.specs.Calls.{TableData}

-- ---- stores

-- the store that calls are made over: a shelf that may use so many words, or the bare store, which
-- loses every key
pub data CaseStore : Type 0 where
  shelf_of : ℕ → CaseStore
  bare_store : CaseStore

-- a shelf that loses none of the keys below
abbrev pub large : CaseStore
large = shelf_of 4096

-- ---- bytes of rows

-- the bytes of so many members, of the voices from v on, each with the argument 0
abbrev pub members_from : ℕ → ℕ → List ℕ
members_from v zero = []
members_from v (suc n) = 0x4D ∷ v ∷ 0 ∷ 0 ∷ members_from (suc v) n

-- the bytes of the row that says that the first n voices differ: 2 + 4 n of them
abbrev pub first_differ : ℕ → List ℕ
first_differ n = 0x41 ∷ n ∷ members_from 0 n

-- ---- tables

-- with these voices and rows, the status of the search, and the nodes opened and exhausted
abbrev pub table_with : List ℕ → List RowData → Status → ℕ → ℕ → TableData
table_with voices rows status opened exhausted =
    record { voices = voices; rows = rows; status = status; opened = opened; exhausted = exhausted }
