-- The lengths of records.
use Rattle.std.proofs.Common.{◌≡◌, ℕ, ◌+◌, ◌*◌, List, [], ◌∷◌, length, refl, ◌∙◌, arith}
use Rattle.std.proofs.lemmas.List.{length-append}
use Rattle.rows.specs.Rows.{RowData}
use Rattle.rows.specs.Bytes.{total_bytes}
use Rattle.rows.proofs.RowBytes.{row_length}
use Rattle.rows.specs.WrittenRows.{written_row}
use Rattle.sheets.specs.Sheets.{voice_records, row_records, records, sheet}

pub voices_length : (voices : List ℕ) → length (voice_records voices) ≡ 9 * length voices
voices_length [] = refl
voices_length (s ∷ voices) = omega (arith, voices_length voices)

pub rows_length : (rows : List RowData) → length (row_records rows) ≡ total_bytes rows
rows_length [] = refl
rows_length (r ∷ rows) = omega (arith, length-append (written_row r) (row_records rows), row_length r, rows_length rows)

pub sheet_length : (voices : List ℕ) (rows : List RowData) → length (sheet voices rows) ≡ 9 * length voices + total_bytes rows + 1
sheet_length voices rows =
    length-append (records voices rows) (0x5A ∷ [])
    ∙ omega (arith, length-append (voice_records voices) (row_records rows), voices_length voices, rows_length rows)
