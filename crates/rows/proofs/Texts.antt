-- Texts that a writer writes one behind the other.
use Rattle.std.proofs.Common.{◌≡◌, ℕ, ◌+◌, ◌-◌, ◌/◌, ◌%◌, ◌^◌, ◌<◌, ◌≤◌, min, List, [], ◌∷◌, ◌++◌, length, take, get_or, flat_map, decimal, append-nil, mod-eq_of_lt, inl, inr, sym, refl, ap, ◌∙◌, ap₂, subst, arith}
use Rattle.std.proofs.lemmas.Fmt.{decimal_digit, decimal_step}
use Rattle.std.proofs.lemmas.Grind.{flat_map-append}
use Rattle.std.proofs.lemmas.List.{length-append, take_more}
use Rattle.std.proofs.Math.Nat.{eq-or-lt_of_le}
use Rattle.rows.specs.declared.writer.Writer.{Writer}
use Rattle.rows.specs.Written.{written, Wrote}
use Rattle.rows.proofs.Places.{written_none, written_on, written_past, written_length}

-- where the place is the last one that can be counted, the memory has ended before it
written_next : (at next : ℕ) (xs ys buffer : List ℕ) → next ≡ min (at + length xs) (2 ^ 64 - 1) → length buffer < 2 ^ 64
    → written next ys (written at xs buffer) ≡ written at (xs ++ ys) buffer
written_next at next xs ys buffer e h = elim (eq-or-lt_of_le most) [
  | inl last ↦ written_past next ys first (omega (arith, long)) ∙ sym (written_past (at + length xs) ys first (omega (arith, long))) ∙ written_on at xs ys buffer
  | inr more ↦ let counted : next ≡ at + length xs = omega arith in ap (λ (n : ℕ). written n ys first) counted ∙ written_on at xs ys buffer
]
  where
    most : next ≤ 2 ^ 64 - 1
    most = omega arith

    first : List ℕ
    first = written at xs buffer

    long : length (written at xs buffer) ≡ length buffer
    long = written_length at xs buffer

-- nothing is written
pub wrote_none : (w : Writer) → Wrote [] w w
wrote_none w = record { place = omega (arith, w.counted); buffer = sym (written_none w.at w.out.now); same = refl }

-- Two texts, the second right behind the first, are one text.
pub wrote_two : {xs ys : List ℕ} {before between after : Writer} → Wrote xs before between → Wrote ys between after → Wrote (xs ++ ys) before after
wrote_two {xs} {ys} {before} {between} {after} p q = record {
  place = omega (arith, p.place, q.place, length-append xs ys);
  buffer = q.buffer ∙ ap (written between.at ys) p.buffer ∙ written_next before.at between.at xs ys before.out.now p.place before.bounded;
  same = q.same ∙ p.same;
}

-- a text of equal bytes
pub same_text : {xs ys : List ℕ} {before after : Writer} → xs ≡ ys → Wrote xs before after → Wrote ys before after
same_text {xs} {ys} {before} {after} e p = subst (λ (l : List ℕ). Wrote l before after) e p

-- a text written by an equal writer
pub same_start : {xs : List ℕ} {first before after : Writer} → before ≡ first → Wrote xs before after → Wrote xs first after
same_start {xs} {first} {before} {after} e p = subst (λ (w : Writer). Wrote xs w after) e p

-- a text written at the front of a buffer
pub wrote_front : {xs buffer : List ℕ} {first last : Writer} → first.at ≡ 0 → first.out.now ≡ buffer → Wrote xs first last → last.out.now ≡ written 0 xs buffer
wrote_front {xs} a b p = p.buffer ∙ ap₂ (λ (n : ℕ) (l : List ℕ). written n xs l) a b

-- ---- numbers

-- one of one digit
pub wrote_digit : (number : ℕ) {before after : Writer} → number < 10 → Wrote ((48 + number % 10) ∷ []) before after → Wrote (decimal number) before after
wrote_digit number h p = same_text (ap (λ (d : ℕ). (48 + d) ∷ []) (mod-eq_of_lt h) ∙ sym (decimal_digit number h)) p

-- one of more digits: the last one is behind the others
pub wrote_digits : (number : ℕ) {before between after : Writer} → 10 ≤ number → number < 2 ^ 64
    → Wrote (decimal (number / 10)) before between → Wrote ((48 + number % 10) ∷ []) between after → Wrote (decimal number) before after
wrote_digits number h f p q = same_text (sym (decimal_step number h f)) (wrote_two p q)

-- ---- items

-- the first items, and one more
pub wrote_more : {A : Type 0} (text : A → List ℕ) (items : List A) (i : ℕ) (item : A) {before between after : Writer} → i < length items → item ≡ get_or items i item
    → Wrote (flat_map text (take i items)) before between → Wrote (text item) between after → Wrote (flat_map text (take (i + 1) items)) before after
wrote_more text items i item h e p q = same_text (sym more) (wrote_two p q)
  where
    more : flat_map text (take (i + 1) items) ≡ flat_map text (take i items) ++ text item
    more =
        ap (flat_map text) (take_more items i item h)
        ∙ flat_map-append text (take i items) (get_or items i item ∷ [])
        ∙ ap (λ (l : List ℕ). flat_map text (take i items) ++ l) (append-nil (text (get_or items i item)) ∙ ap text (sym e))
