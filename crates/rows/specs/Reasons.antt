-- Why a voice or a row is refused beside the voices and rows that are there: by the smallest
-- number that fits.
use Rattle.std.specs.Prelude.{ℕ, ◌+◌, Bool, true, false, not, ◌||◌, List, [], ◌∷◌, length, drop, Ok, Err, ◌==◌, nat_le, nat_lt}
use Rattle.rows.specs.declared.limits.TheConstants.{MOST_VOICES, MOST_ROWS, MOST_BYTES}
use Rattle.rows.specs.Refusals.{kind_number}
use Rattle.rows.specs.Rows.{RowData, Meaning, Verdict}
use Rattle.rows.specs.Bytes.{head_length, lettered, counted, right_length, marked, decode, total_bytes}

-- ---- reasons: the numbers of refusals, ascending, each with whether it fits

-- a kind refuses a row under this number
abbrev pub kind_refuses : ℕ → Verdict → Bool
kind_refuses n (Ok x) = false
kind_refuses n (Err f) = kind_number f == n

-- of one voice more, with this opening set
abbrev pub voice_reasons : List ℕ → ℕ → List (ℕ × Bool)
voice_reasons voices set = (10, (set == 0)) ∷ (11, nat_le MOST_VOICES (length voices)) ∷ []

-- of one row more, with these bytes
abbrev pub row_reasons : Meaning → List ℕ → List RowData → List ℕ → List (ℕ × Bool)
row_reasons m voices rows bs =
    (2, not (lettered m bs))
    ∷ (5, not (counted bs))
    ∷ (6, not (right_length m bs))
    ∷ (7, not (marked (drop (head_length m bs) bs)))
    ∷ (8, kind_refuses 8 (m.accepts (decode m bs) (length voices)))
    ∷ (9, kind_refuses 9 (m.accepts (decode m bs) (length voices)))
    ∷ (12, nat_le MOST_ROWS (length rows) || nat_lt MOST_BYTES (total_bytes rows + length bs))
    ∷ []

-- ---- judgements

-- it passes, or is refused under a number
pub data Judgement : Type 0 where
  passes : Judgement
  refused_under : ℕ → Judgement

-- by the first reason that fits: the smallest
abbrev pub judge : List (ℕ × Bool) → Judgement
judge [] = passes
judge ((n, fits) ∷ others) = elim fits [ true ↦ refused_under n | false ↦ judge others ]
