-- A sheet, a table's voices and rows as bytes: for each voice hex 56 and its opening set in 8
-- bytes, low byte first; then the rows; then hex 5A.
use Rattle.std.specs.Prelude.{ℕ, List, [], ◌∷◌, ◌++◌, flat_map}
use Rattle.std.specs.Int.{w64, to_le_bytes}
use Rattle.rows.specs.Rows.{RowData}
use Rattle.rows.specs.WrittenRows.{written_row}

-- the record of a voice, by its opening set
abbrev pub voice_record : ℕ → List ℕ
voice_record s = 0x56 ∷ to_le_bytes w64 s

-- the records of voices, and of rows
abbrev pub voice_records : List ℕ → List ℕ
voice_records voices = flat_map voice_record voices

abbrev pub row_records : List RowData → List ℕ
row_records rows = flat_map written_row rows

abbrev pub records : List ℕ → List RowData → List ℕ
records voices rows = voice_records voices ++ row_records rows

-- the sheet of these voices and rows
abbrev pub sheet : List ℕ → List RowData → List ℕ
sheet voices rows = records voices rows ++ (0x5A ∷ [])
