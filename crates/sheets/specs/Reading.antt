-- Reading a sheet: record after record, each judged beside the voices and rows of the records
-- before it.
use Rattle.std.specs.Prelude.{ℕ, zero, suc, ◌+◌, ◌*◌, cond, List, [], ◌∷◌, ◌++◌, length, take, drop, ◌==◌, nat_lt}
use Rattle.std.specs.Int.{w64, from_le_bytes}
use Rattle.rows.specs.Rows.{RowData, Meaning}
use Rattle.rows.specs.Bytes.{count_byte, head_length, lettered, decode}
use Rattle.rows.specs.Reasons.{Judgement, judge, voice_reasons, row_reasons}
use Rattle.sheets.specs.declared.refusal.Layer.{Layer}
use Rattle.sheets.specs.declared.refusal.Layer.TheVariants.{Sheet}
use Rattle.sheets.specs.Causes.{layer_of}

-- ---- one record

-- What is at the front of bytes: the sheet's end; a voice with this opening set; a row of these
-- bytes; or a fault, by its number, how far from here its place is, and its layer.
pub data RecordReading : Type 0 where
  reads_end : RecordReading
  reads_voice : ℕ → RecordReading
  reads_row : List ℕ → RecordReading
  reads_fault : ℕ → ℕ → Layer → RecordReading

-- a voice or a row that is refused makes its record faulty
abbrev pub if_passes : Judgement → RecordReading → RecordReading
if_passes Judgement.passes reading = reading
if_passes (Judgement.refused_under n) reading = reads_fault n 0 (layer_of n)

-- hex 5A, with what follows it: nothing may
abbrev pub read_end_record : List ℕ → RecordReading
read_end_record [] = reads_end
read_end_record (b ∷ bs) = reads_fault 4 1 Sheet

-- hex 56, with what follows it, after these voices and rows: no row may come before it, and the
-- set has 8 bytes
abbrev pub read_voice_record : Meaning → List ℕ → List RowData → List ℕ → RecordReading
read_voice_record m voices (r ∷ rows) bs = reads_fault 3 0 Sheet
read_voice_record m voices [] bs =
    cond (nat_lt (length bs) 8) (reads_fault 6 0 Sheet)
    (if_passes (judge (voice_reasons voices (from_le_bytes w64 (take 8 bs))))
    (reads_voice (from_le_bytes w64 (take 8 bs))))

-- the bytes of the row at the front: as many as letter and count ask for, or all where they are
-- fewer or the bank does not know the letter
abbrev pub front_row : Meaning → List ℕ → List ℕ
front_row m bs = cond (lettered m bs) (take (head_length m bs + 4 * count_byte bs) bs) bs

abbrev pub read_row_record : Meaning → List ℕ → List RowData → List ℕ → RecordReading
read_row_record m voices rows bs =
    if_passes (judge (row_reasons m voices rows (front_row m bs))) (reads_row (front_row m bs))

-- what is at the front of these bytes, after the records of these voices and rows
abbrev pub read_record : Meaning → List ℕ → List RowData → List ℕ → RecordReading
read_record m voices rows [] = reads_fault 1 0 Sheet
read_record m voices rows (b ∷ bs) =
    cond (b == 0x5A) (read_end_record bs)
    (cond (b == 0x56) (read_voice_record m voices rows bs) (read_row_record m voices rows (b ∷ bs)))

-- ---- all records

-- what a sheet is read as: voices and rows, or a fault, by its number, its place and its layer
pub data SheetReading : Type 0 where
  accepted : List ℕ → List RowData → SheetReading
  faulty : ℕ → ℕ → Layer → SheetReading

-- what bytes at the place `at` are read as, after the records of these voices and rows, where the
-- record at their front is read so; `next` says what the bytes after it are read as
abbrev pub read_on : Meaning → (ℕ → List ℕ → List RowData → List ℕ → SheetReading)
    → ℕ → List ℕ → List RowData → List ℕ → RecordReading → SheetReading
read_on m next at voices rows bs reads_end = accepted voices rows
read_on m next at voices rows bs (reads_voice s) = next (at + 9) (voices ++ (s ∷ [])) rows (drop 9 bs)
read_on m next at voices rows bs (reads_row r) =
    next (at + length r) voices (rows ++ (decode m r ∷ [])) (drop (length r) bs)
read_on m next at voices rows bs (reads_fault k offset layer) = faulty k (at + offset) layer

-- record after record; the number bounds them, and each has a byte or more
abbrev pub read_from : Meaning → ℕ → ℕ → List ℕ → List RowData → List ℕ → SheetReading
read_from m zero at voices rows bs = faulty 1 at Sheet
read_from m (suc n) at voices rows bs =
    read_on m (read_from m n) at voices rows bs (read_record m voices rows bs)

abbrev pub read_sheet : Meaning → List ℕ → SheetReading
read_sheet m bs = read_from m (suc (length bs)) 0 [] [] bs
