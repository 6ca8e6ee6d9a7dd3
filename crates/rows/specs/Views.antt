-- What the code's row says, and what its steps of building leave.
use Rattle.std.specs.Prelude.{ℕ, List, [], ◌∷◌, ◌++◌, map, vec_items}
use Rattle.rows.specs.declared.member.Member.{Member}
use Rattle.rows.specs.declared.row.Row.{Row}
use Rattle.rows.specs.Rows.{RowData}

abbrev pub row_of : Row → RowData
row_of r = record { letter = r.letter; body = vec_items r.body; members = vec_items r.members }

abbrev pub rows_of : List Row → List RowData
rows_of rs = map row_of rs

-- a row with a letter alone, and one byte or one member more
abbrev pub blank : ℕ → RowData
blank l = record { letter = l; body = []; members = [] }

abbrev pub with_byte : RowData → ℕ → RowData
with_byte r b = record { letter = r.letter; body = r.body ++ (b ∷ []); members = r.members }

abbrev pub with_member : RowData → Member → RowData
with_member r m = record { letter = r.letter; body = r.body; members = r.members ++ (m ∷ []) }
