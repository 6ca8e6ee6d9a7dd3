-- The banks and the rows of the cases.
use Rattle.std.specs.Prelude.{ℕ, List, [], ◌∷◌, ℤ, pos, negsuc}
use Rattle.rows.specs.declared.member.Member.{Member}
use Rattle.rows.specs.Rows.{RowData, Meaning, alone}
use Rattle.kinds.specs.Differing.{all_different}
use Rattle.kinds.specs.Sums.{linear}
use Rattle.kinds.specs.Literals.{clause}
use Rattle.kinds.specs.Entries.{element}

-- ---- banks of one kind each

abbrev pub differing : Meaning
differing = alone all_different

abbrev pub sums : Meaning
sums = alone linear

abbrev pub clauses : Meaning
clauses = alone clause

abbrev pub elements : Meaning
elements = alone element

-- ---- rows

-- a voice and its argument
abbrev pub row_member : ℕ → ℤ → Member
row_member v a = record { voice = v; argument = a }

-- a letter, a body and members
abbrev pub case_row : ℕ → List ℕ → List Member → RowData
case_row l b ms = record { letter = l; body = b; members = ms }

abbrev pub differs_2 : RowData
differs_2 = case_row 0x41 (2 ∷ []) (row_member 0 (pos 0) ∷ row_member 1 (pos 0) ∷ [])

abbrev pub differs_3 : RowData
differs_3 =
    case_row 0x41 (3 ∷ [])
    (row_member 0 (pos 0) ∷ row_member 1 (pos 0) ∷ row_member 2 (pos 0) ∷ [])

abbrev pub differs_4 : RowData
differs_4 =
    case_row 0x41 (4 ∷ [])
    (row_member 0 (pos 0) ∷ row_member 1 (pos 0) ∷ row_member 2 (pos 0) ∷ row_member 3 (pos 0) ∷ [])

abbrev pub differs_5 : RowData
differs_5 =
    case_row 0x41 (5 ∷ [])
    (row_member 0 (pos 0) ∷ row_member 1 (pos 0) ∷ row_member 2 (pos 0)
    ∷ row_member 3 (pos 0) ∷ row_member 4 (pos 0) ∷ [])

-- voice 0 twice
abbrev pub differs_twice : RowData
differs_twice = case_row 0x41 (2 ∷ []) (row_member 0 (pos 0) ∷ row_member 0 (pos 0) ∷ [])

abbrev pub differs_argument : RowData
differs_argument = case_row 0x41 (1 ∷ []) (row_member 0 (negsuc 0) ∷ [])

abbrev pub sum_5 : RowData
sum_5 =
    case_row 0x4C (5 ∷ 20 ∷ 0 ∷ 0 ∷ 0 ∷ [])
    (row_member 0 (pos 1) ∷ row_member 1 (pos 2) ∷ row_member 2 (pos 1)
    ∷ row_member 3 (pos 1) ∷ row_member 4 (pos 2) ∷ [])

-- coefficients -2 and -3, bound -5
abbrev pub sum_2 : RowData
sum_2 =
    case_row 0x4C (2 ∷ 0xFB ∷ 0xFF ∷ 0xFF ∷ 0xFF ∷ [])
    (row_member 0 (negsuc 1) ∷ row_member 1 (negsuc 2) ∷ [])

abbrev pub sum_1 : ℤ → RowData
sum_1 c = case_row 0x4C (1 ∷ 0 ∷ 0 ∷ 0 ∷ 0 ∷ []) (row_member 0 c ∷ [])

-- the bound's four bytes, low byte first
abbrev pub sum_bounded : ℕ → ℕ → ℕ → ℕ → RowData
sum_bounded a b c d = case_row 0x4C (1 ∷ a ∷ b ∷ c ∷ d ∷ []) (row_member 0 (pos 1) ∷ [])

-- voice 0 twice, with 1 and -2, and voice 1; bound -4
abbrev pub sum_twice : RowData
sum_twice =
    case_row 0x4C (3 ∷ 0xFC ∷ 0xFF ∷ 0xFF ∷ 0xFF ∷ [])
    (row_member 0 (pos 1) ∷ row_member 0 (negsuc 1) ∷ row_member 1 (pos 1) ∷ [])

-- voice 0 has 1, or voice 1 lacks 2
abbrev pub either_of : RowData
either_of = case_row 0x43 (2 ∷ []) (row_member 0 (pos 1) ∷ row_member 1 (pos 66) ∷ [])

abbrev pub literal : ℤ → RowData
literal a = case_row 0x43 (1 ∷ []) (row_member 0 a ∷ [])

-- voice 0 has 1, twice
abbrev pub either_twice : RowData
either_twice = case_row 0x43 (2 ∷ []) (row_member 0 (pos 1) ∷ row_member 0 (pos 1) ∷ [])

-- entries 4, 7, 4; index voice 0, result voice 1
abbrev pub entries : RowData
entries =
    case_row 0x45 (3 ∷ 0 ∷ 1 ∷ [])
    (row_member 0 (pos 4) ∷ row_member 0 (pos 7) ∷ row_member 0 (pos 4) ∷ [])

-- entries 1, 5; voice 0 is index and result
abbrev pub entries_of_itself : RowData
entries_of_itself =
    case_row 0x45 (2 ∷ 0 ∷ 0 ∷ []) (row_member 0 (pos 1) ∷ row_member 0 (pos 5) ∷ [])

abbrev pub entry_of : ℤ → RowData
entry_of a = case_row 0x45 (1 ∷ 0 ∷ 1 ∷ []) (row_member 0 a ∷ [])

-- an entry with a voice byte of 80
abbrev pub entry_with_voice : RowData
entry_with_voice = case_row 0x45 (1 ∷ 0 ∷ 1 ∷ []) (row_member 80 (pos 4) ∷ [])

-- the letter B
abbrev pub row_of_no_kind : RowData
row_of_no_kind = case_row 0x42 (1 ∷ []) (row_member 0 (pos 0) ∷ [])
