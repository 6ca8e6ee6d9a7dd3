-- What the constructors of rows return.
use Rattle.std.specs.Prelude.{◌≡◌, ℕ, true, length, is_ok, Ok, Err, Result}
use Rattle.rows.specs.declared.row.Row.{Row}
use Rattle.rows.specs.declared.row.RowError.{RowError}
use Rattle.rows.specs.declared.row.RowError.TheVariants.{MemberCount, LargeValue, OutOfMemory}
use Rattle.rows.specs.Rows.{RowData, allowed_count}
use Rattle.rows.specs.Reading.{checked}
use Rattle.rows.specs.Views.{row_of}

-- the row, where it has 1 to 32 members
abbrev pub if_counted : RowData → Result RowData RowError
if_counted r = checked (allowed_count (length r.members)) MemberCount (Ok r)

-- A constructor's result is this row, or this error; where there is such a row, memory may be
-- missing.
abbrev pub Constructs : Result RowData RowError → Result Row RowError → Type 0
Constructs wanted (Ok row) = wanted ≡ Ok (row_of row)
Constructs wanted (Err MemberCount) = wanted ≡ Err MemberCount
Constructs wanted (Err LargeValue) = wanted ≡ Err LargeValue
Constructs wanted (Err OutOfMemory) = is_ok wanted ≡ true

-- the same of a row whose members are still to come, so many
abbrev pub ConstructsHead : ℕ → RowData → Result Row RowError → Type 0
ConstructsHead count r result = Constructs (checked (allowed_count count) MemberCount (Ok r)) result
