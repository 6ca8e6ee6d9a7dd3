-- Lines of values, one after the other.
use Rattle.std.proofs.Common.{◌≡◌, ℕ, suc, ◌+◌, ◌<◌, List, [], ◌∷◌, ◌++◌, length, get_or, take, sym, ap, ◌∙◌, arith}
use Rattle.std.proofs.lemmas.List.{append-nil, append_assoc, length-take-le, take_more}
use Rattle.rows.specs.declared.writer.Writer.{Writer}
use Rattle.rows.specs.Written.{Wrote}
use Rattle.rows.proofs.Texts.{wrote_two, same_text}
use Rattle.job.specs.Texts.{value_line, value_lines}

values_append : (i : ℕ) (xs ys : List ℕ) → value_lines i (xs ++ ys) ≡ value_lines i xs ++ value_lines (i + length xs) ys
values_append i [] ys = ap (λ (k : ℕ). value_lines k ys) same
  where
    same : i ≡ i + 0
    same = omega arith
values_append i (x ∷ xs) ys =
    ap (λ (l : List ℕ). value_line i x ++ l) (values_append (suc i) xs ys ∙ ap (λ (k : ℕ). value_lines (suc i) xs ++ value_lines k ys) same)
    ∙ sym (append_assoc (value_line i x) (value_lines (suc i) xs) (value_lines (i + suc (length xs)) ys))
  where
    same : suc i + length xs ≡ i + suc (length xs)
    same = omega arith

values_push : (values : List ℕ) (i : ℕ) → i < length values → value_lines 0 (take (i + 1) values) ≡ value_lines 0 (take i values) ++ value_line i (get_or values i 0)
values_push values i h =
    ap (value_lines 0) (take_more values i 0 h)
    ∙ values_append 0 (take i values) (get_or values i 0 ∷ [])
    ∙ ap (λ (l : List ℕ). value_lines 0 (take i values) ++ l) (append-nil (value_line (0 + length (take i values)) (get_or values i 0)))
    ∙ ap (λ (k : ℕ). value_lines 0 (take i values) ++ value_line k (get_or values i 0)) place
  where
    place : 0 + length (take i values) ≡ i
    place = omega (arith, length-take-le i values (omega arith))

-- the lines of the first values, and one more
pub value_more : (values : List ℕ) (i v : ℕ) {before between after : Writer} → i < length values → v ≡ get_or values i 0
    → Wrote (value_lines 0 (take i values)) before between → Wrote (value_line i v) between after → Wrote (value_lines 0 (take (i + 1) values)) before after
value_more values i v h e p q = same_text (sym (values_push values i h)) (wrote_two p (same_text (ap (value_line i) e) q))
