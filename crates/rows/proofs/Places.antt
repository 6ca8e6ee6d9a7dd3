-- Pieces written one behind the other.
use Rattle.std.proofs.Common.{◌≡◌, ℕ, zero, suc, ◌+◌, ◌-◌, ◌≤◌, List, [], ◌∷◌, ◌++◌, length, take, drop, sym, refl, ap, ◌∙◌, ap₂, zero-add, arith}
use Rattle.std.proofs.lemmas.List.{length-append, length-take, length-take-le, length-drop, take_all, take_at, take-append-le}
use Rattle.rows.specs.Written.{written}

-- ---- one byte of the buffer at a time

written_suc : (at : ℕ) (xs : List ℕ) (b : ℕ) (buffer : List ℕ) → written (suc at) xs (b ∷ buffer) ≡ b ∷ written at xs buffer
written_suc at xs b buffer = ap (λ (n : ℕ). b ∷ take (length buffer) (take at buffer ++ (xs ++ drop n (b ∷ buffer)))) place
  where
    place : suc at + length xs ≡ suc (at + length xs)
    place = omega arith

written_cons : (x : ℕ) (xs : List ℕ) (b : ℕ) (buffer : List ℕ) → written 0 (x ∷ xs) (b ∷ buffer) ≡ x ∷ written 0 xs buffer
written_cons x xs b buffer = ap (λ (n : ℕ). x ∷ take (length buffer) (xs ++ drop n (b ∷ buffer))) place
  where
    place : 0 + suc (length xs) ≡ suc (0 + length xs)
    place = omega arith

-- no bytes change nothing
pub written_none : (at : ℕ) (buffer : List ℕ) → written at [] buffer ≡ buffer
written_none at [] = refl
written_none zero (b ∷ buffer) = take_all (length (b ∷ buffer)) (b ∷ buffer) (omega arith)
written_none (suc at) (b ∷ buffer) = written_suc at [] b buffer ∙ ap (λ (l : List ℕ). b ∷ l) (written_none at buffer)

-- Two pieces, the second right behind the first, are one piece.
pub written_on : (at : ℕ) (xs ys buffer : List ℕ) → written (at + length xs) ys (written at xs buffer) ≡ written at (xs ++ ys) buffer
written_on at xs ys [] = refl
written_on zero [] ys (b ∷ buffer) = ap (written 0 ys) (written_none 0 (b ∷ buffer))
written_on zero (x ∷ xs) ys (b ∷ buffer) =
    ap₂ (λ (n : ℕ) (l : List ℕ). written n ys l) place (written_cons x xs b buffer)
    ∙ written_suc (0 + length xs) ys x (written 0 xs buffer)
    ∙ ap (λ (l : List ℕ). x ∷ l) (written_on zero xs ys buffer)
    ∙ sym (written_cons x (xs ++ ys) b buffer)
  where
    place : 0 + suc (length xs) ≡ suc (0 + length xs)
    place = omega arith
written_on (suc at) xs ys (b ∷ buffer) =
    ap₂ (λ (n : ℕ) (l : List ℕ). written n ys l) place (written_suc at xs b buffer)
    ∙ written_suc (at + length xs) ys b (written at xs buffer)
    ∙ ap (λ (l : List ℕ). b ∷ l) (written_on at xs ys buffer)
    ∙ sym (written_suc at (xs ++ ys) b buffer)
  where
    place : suc at + length xs ≡ suc (at + length xs)
    place = omega arith

-- ---- a piece that fits, one that fits in part, and one that is past the buffer

pub written_whole : (at : ℕ) (xs buffer : List ℕ) → at + length xs ≤ length buffer
    → written at xs buffer ≡ take at buffer ++ (xs ++ drop (at + length xs) buffer)
written_whole at xs buffer h = take_all (length buffer) (take at buffer ++ (xs ++ drop (at + length xs) buffer)) (omega (arith, long))
  where
    long : length (take at buffer ++ (xs ++ drop (at + length xs) buffer)) ≡ length buffer
    long = length-append (take at buffer) (xs ++ drop (at + length xs) buffer)
        ∙ omega (arith, length-take-le at buffer (omega arith), length-append xs (drop (at + length xs) buffer), length-drop (at + length xs) buffer)

-- at the buffer's front
pub written_front : (xs buffer : List ℕ) → length xs ≤ length buffer → written 0 xs buffer ≡ xs ++ drop (length xs) buffer
written_front xs buffer h =
    written_whole 0 xs buffer (omega arith) ∙ ap (λ (n : ℕ). xs ++ drop n buffer) (zero-add (length xs))

pub written_part : (at : ℕ) (xs buffer : List ℕ) → at ≤ length buffer → length buffer - at ≤ length xs
    → written at xs buffer ≡ take at buffer ++ take (length buffer - at) xs
written_part zero xs buffer h k =
    take-append-le (length buffer) xs (drop (0 + length xs) buffer) (omega arith)
    ∙ ap (λ (n : ℕ). take n xs) all
  where
    all : length buffer ≡ length buffer - 0
    all = omega arith
written_part (suc at) xs [] h k = absurd (omega arith)
written_part (suc at) xs (b ∷ buffer) h k =
    written_suc at xs b buffer
    ∙ ap (λ (l : List ℕ). b ∷ l) (written_part at xs buffer (omega arith) (omega arith))
    ∙ ap (λ (n : ℕ). b ∷ (take at buffer ++ take n xs)) left
  where
    left : length buffer - at ≡ suc (length buffer) - suc at
    left = omega arith

pub written_past : (at : ℕ) (xs buffer : List ℕ) → length buffer ≤ at → written at xs buffer ≡ buffer
written_past at xs buffer h =
    ap (λ (l : List ℕ). take (length buffer) (l ++ (xs ++ drop (at + length xs) buffer))) (take_all at buffer h)
    ∙ take_at buffer (xs ++ drop (at + length xs) buffer) (length buffer) refl

-- a buffer stays as long as it was
pub written_length : (at : ℕ) (xs buffer : List ℕ) → length (written at xs buffer) ≡ length buffer
written_length at xs buffer =
    omega (
      arith,
      length-take (length buffer) (take at buffer ++ (xs ++ drop (at + length xs) buffer)),
      length-append (take at buffer) (xs ++ drop (at + length xs) buffer),
      length-append xs (drop (at + length xs) buffer),
      length-take at buffer,
      length-drop (at + length xs) buffer,
    )
