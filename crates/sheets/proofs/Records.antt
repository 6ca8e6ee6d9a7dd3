-- What is at the front of bytes, by cases, and what it says of the bytes.
use Rattle.std.proofs.Common.{◌≡◌, ℕ, ◌+◌, ◌*◌, ◌<◌, ◌≤◌, cond, eqb, ltb, List, [], ◌∷◌, length, get_or, take, drop, sym, refl, ap, ◌∙◌, subst, inl, inr, arith}
use Rattle.std.proofs.lemmas.List.{length-take, take_all}
use Rattle.std.proofs.lemmas.Bool.{cases_Bool, cases_lt, cond-true, cond-false, lt-ltb, le-ltb, eqb-true, eqb-false, eq-eqb, ne_eqb}
use Rattle.rows.specs.Rows.{RowData, Meaning}
use Rattle.rows.specs.Bytes.{count_byte, head_length, lettered}
use Rattle.rows.specs.Reasons.{Judgement}
use Rattle.search.specs.Calls.{fresh_table, judged}
use Rattle.search.specs.Calls.Call.{declare, post}
use Rattle.sheets.specs.declared.refusal.Layer.TheVariants.{Sheet}
use Rattle.std.specs.Int.{w64, from_le_bytes}
use Rattle.sheets.specs.Reading.{RecordReading, if_passes, read_end_record, read_voice_record, front_row, read_row_record, read_record}
use Rattle.sheets.specs.Reading.RecordReading.{reads_end, reads_voice, reads_row, reads_fault}

-- ---- the row at the front

-- it is a part of the bytes from their start
pub front_part : (m : Meaning) (bs : List ℕ) → front_row m bs ≡ take (length (front_row m bs)) bs
front_part m bs =
    elim (cases_Bool (lettered m bs)) [
      | inl e ↦
          let n = head_length m bs + 4 * count_byte bs in
          let f : front_row m bs ≡ take n bs = cond-true (lettered m bs) (take n bs) bs e in
          elim (cases_lt n (length bs)) [
            | inl l ↦ f ∙ ap (λ (i : ℕ). take i bs) (sym (ap length f ∙ length-take n bs ∙ omega arith))
            | inr l ↦ let a : front_row m bs ≡ bs = f ∙ take_all n bs l in a ∙ sym (ap (λ (i : ℕ). take i bs) (ap length a) ∙ take_all (length bs) bs (omega arith))
          ]
      | inr e ↦
          let a : front_row m bs ≡ bs = cond-false (lettered m bs) (take (head_length m bs + 4 * count_byte bs) bs) bs e in
          a ∙ sym (ap (λ (i : ℕ). take i bs) (ap length a) ∙ take_all (length bs) bs (omega arith))
    ]

-- ---- hex 56

pub late_voice : (m : Meaning) (voices : List ℕ) (rows : List RowData) (bs : List ℕ) → (length rows ≡ 0 → ⊥) → read_voice_record m voices rows bs ≡ reads_fault 3 0 Sheet
late_voice m voices [] bs h = absurd (h refl)
late_voice m voices (r ∷ rows) bs h = refl

pub cut_voice : (m : Meaning) (voices : List ℕ) (rows : List RowData) (bs : List ℕ) → length rows ≡ 0 → length bs < 8 → read_voice_record m voices rows bs ≡ reads_fault 6 0 Sheet
cut_voice m voices [] bs e h =
    cond-true (ltb (length bs) 8) (reads_fault 6 0 Sheet) (if_passes (judged m (fresh_table voices []) (declare (from_le_bytes w64 (take 8 bs)))) (reads_voice (from_le_bytes w64 (take 8 bs)))) (lt-ltb (length bs) 8 h)
cut_voice m voices (r ∷ rows) bs e h = absurd (omega arith)

pub whole_voice : (m : Meaning) (voices : List ℕ) (rows : List RowData) (bs : List ℕ) (s : ℕ) → length rows ≡ 0 → 8 ≤ length bs → from_le_bytes w64 (take 8 bs) ≡ s
    → read_voice_record m voices rows bs ≡ if_passes (judged m (fresh_table voices rows) (declare s)) (reads_voice s)
whole_voice m voices [] bs s e h f =
    cond-false (ltb (length bs) 8) (reads_fault 6 0 Sheet) (if_passes (judged m (fresh_table voices []) (declare (from_le_bytes w64 (take 8 bs)))) (reads_voice (from_le_bytes w64 (take 8 bs)))) (le-ltb (length bs) 8 h)
    ∙ ap (λ (n : ℕ). if_passes (judged m (fresh_table voices []) (declare n)) (reads_voice n)) f
whole_voice m voices (r ∷ rows) bs s e h f = absurd (omega arith)

-- ---- any byte

module _ (m : Meaning) (voices : List ℕ) (rows : List RowData) where
  pub at_end : (b : ℕ) (bs : List ℕ) → b ≡ 0x5A → read_record m voices rows (b ∷ bs) ≡ read_end_record bs
  at_end b bs e = cond-true (eqb b 0x5A) (read_end_record bs) (cond (eqb b 0x56) (read_voice_record m voices rows bs) (read_row_record m voices rows (b ∷ bs))) (eq-eqb b 0x5A e)

  pub at_voice : (b : ℕ) (bs : List ℕ) → b ≡ 0x56 → read_record m voices rows (b ∷ bs) ≡ read_voice_record m voices rows bs
  at_voice b bs e =
      cond-false (eqb b 0x5A) (read_end_record bs) (cond (eqb b 0x56) (read_voice_record m voices rows bs) (read_row_record m voices rows (b ∷ bs))) (ne_eqb b 0x5A (λ f. omega (arith, e, f)))
      ∙ cond-true (eqb b 0x56) (read_voice_record m voices rows bs) (read_row_record m voices rows (b ∷ bs)) (eq-eqb b 0x56 e)

  pub at_row : (b : ℕ) (bs : List ℕ) → (b ≡ 0x5A → ⊥) → (b ≡ 0x56 → ⊥) → read_record m voices rows (b ∷ bs) ≡ read_row_record m voices rows (b ∷ bs)
  at_row b bs e f =
      cond-false (eqb b 0x5A) (read_end_record bs) (cond (eqb b 0x56) (read_voice_record m voices rows bs) (read_row_record m voices rows (b ∷ bs))) (ne_eqb b 0x5A e)
      ∙ cond-false (eqb b 0x56) (read_voice_record m voices rows bs) (read_row_record m voices rows (b ∷ bs)) (ne_eqb b 0x56 f)

-- ---- from an item back to the bytes

abbrev IsRow : RecordReading → Type 0
IsRow reads_end = ⊥
IsRow (reads_voice s) = ⊥
IsRow (reads_row r) = Unit {0}
IsRow (reads_fault n o l) = ⊥

abbrev IsVoice : RecordReading → Type 0
IsVoice reads_end = ⊥
IsVoice (reads_voice s) = Unit {0}
IsVoice (reads_row r) = ⊥
IsVoice (reads_fault n o l) = ⊥

abbrev IsLast : RecordReading → Type 0
IsLast reads_end = Unit {0}
IsLast (reads_voice s) = ⊥
IsLast (reads_row r) = ⊥
IsLast (reads_fault n o l) = ⊥

-- a voice's record
pub record VoiceHere (m : Meaning) (voices : List ℕ) (rows : List RowData) (bs : List ℕ) (s : ℕ) : Type 0 where
  pub no_rows : rows ≡ []
  pub long : 9 ≤ length bs
  pub mark : get_or bs 0 0 ≡ 0x56
  pub number : from_le_bytes w64 (take 8 (drop 1 bs)) ≡ s
  pub passes : judged m (fresh_table voices rows) (declare s) ≡ Judgement.passes

-- a row
pub record RowHere (m : Meaning) (voices : List ℕ) (rows : List RowData) (bs r : List ℕ) : Type 0 where
  pub front : r ≡ take (length r) bs
  pub passes : judged m (fresh_table voices rows) (post r) ≡ Judgement.passes

judged_voice : (j : Judgement) (x s : ℕ) → if_passes j (reads_voice x) ≡ reads_voice s → (j ≡ Judgement.passes) × (x ≡ s)
judged_voice Judgement.passes x s e = (refl, cc)
judged_voice (Judgement.refused_under n) x s e = absurd (subst IsVoice (sym e) tt)

judged_row : (j : Judgement) (x r : List ℕ) → if_passes j (reads_row x) ≡ reads_row r → (j ≡ Judgement.passes) × (x ≡ r)
judged_row Judgement.passes x r e = (refl, cc)
judged_row (Judgement.refused_under n) x r e = absurd (subst IsRow (sym e) tt)

no_voice : (j : Judgement) (x : List ℕ) (s : ℕ) → if_passes j (reads_row x) ≡ reads_voice s → ⊥
no_voice Judgement.passes x s e = subst IsRow e tt
no_voice (Judgement.refused_under n) x s e = subst IsVoice (sym e) tt

no_row : (j : Judgement) (x : ℕ) (r : List ℕ) → if_passes j (reads_voice x) ≡ reads_row r → ⊥
no_row Judgement.passes x r e = subst IsVoice e tt
no_row (Judgement.refused_under n) x r e = subst IsRow (sym e) tt

never_last : (j : Judgement) (i : RecordReading) → (IsLast i → ⊥) → if_passes j i ≡ reads_end → ⊥
never_last Judgement.passes i h e = h (subst IsLast (sym e) tt)
never_last (Judgement.refused_under n) i h e = subst IsLast (sym e) tt

end_no_voice : (bs : List ℕ) (s : ℕ) → read_end_record bs ≡ reads_voice s → ⊥
end_no_voice [] s e = subst IsLast e tt
end_no_voice (b ∷ bs) s e = subst IsVoice (sym e) tt

end_no_row : (bs r : List ℕ) → read_end_record bs ≡ reads_row r → ⊥
end_no_row [] r e = subst IsLast e tt
end_no_row (b ∷ bs) r e = subst IsRow (sym e) tt

last_end : (b : ℕ) (bs : List ℕ) → b ≡ 0x5A → read_end_record bs ≡ reads_end → b ∷ bs ≡ 0x5A ∷ []
last_end b [] k e = ap (λ (x : ℕ). x ∷ []) k
last_end b (x ∷ bs) k e = absurd (subst IsLast (sym e) tt)

module _ (m : Meaning) (voices : List ℕ) (rows : List RowData) where
  read_voice_voice : (rs : List RowData) (bs : List ℕ) (s : ℕ) → read_voice_record m voices rs bs ≡ reads_voice s
      → (rs ≡ []) × (8 ≤ length bs) × (from_le_bytes w64 (take 8 bs) ≡ s) × (judged m (fresh_table voices rs) (declare s) ≡ Judgement.passes)
  read_voice_voice [] bs s e =
      elim (cases_lt (length bs) 8) [
        | inl l ↦ absurd (subst IsVoice (sym (sym (cut_voice m voices [] bs refl l) ∙ e)) tt)
        | inr l ↦
            let x = from_le_bytes w64 (take 8 bs) in
            let j = judged_voice (judged m (fresh_table voices []) (declare x)) x s (sym (whole_voice m voices [] bs x refl l refl) ∙ e) in
            (refl, l, j.1, ap (λ (n : ℕ). judged m (fresh_table voices []) (declare n)) (sym j.1) ∙ j.0)
      ]
  read_voice_voice (r ∷ rs) bs s e = absurd (subst IsVoice (sym e) tt)

  read_voice_no_row : (rs : List RowData) (bs r : List ℕ) → read_voice_record m voices rs bs ≡ reads_row r → ⊥
  read_voice_no_row [] bs r e =
      elim (cases_lt (length bs) 8) [
        | inl l ↦ subst IsRow (sym (sym (cut_voice m voices [] bs refl l) ∙ e)) tt
        | inr l ↦
            let x = from_le_bytes w64 (take 8 bs) in
            no_row (judged m (fresh_table voices []) (declare x)) x r (sym (whole_voice m voices [] bs x refl l refl) ∙ e)
      ]
  read_voice_no_row (x ∷ rs) bs r e = subst IsRow (sym e) tt

  read_voice_not_last : (rs : List RowData) (bs : List ℕ) → read_voice_record m voices rs bs ≡ reads_end → ⊥
  read_voice_not_last [] bs e =
      elim (cases_lt (length bs) 8) [
        | inl l ↦ subst IsLast (sym (sym (cut_voice m voices [] bs refl l) ∙ e)) tt
        | inr l ↦
            let x = from_le_bytes w64 (take 8 bs) in
            never_last (judged m (fresh_table voices []) (declare x)) (reads_voice x) (λ z. z) (sym (whole_voice m voices [] bs x refl l refl) ∙ e)
      ]
  read_voice_not_last (x ∷ rs) bs e = subst IsLast (sym e) tt

  pub voice_here : (bs : List ℕ) (s : ℕ) → read_record m voices rows bs ≡ reads_voice s → VoiceHere m voices rows bs s
  voice_here [] s e = absurd (subst IsVoice (sym e) tt)
  voice_here (b ∷ bs) s e =
      elim (cases_Bool (eqb b 0x5A)) [
        | inl x ↦ absurd (end_no_voice bs s (sym (at_end m voices rows b bs (eqb-true b 0x5A x)) ∙ e))
        | inr x ↦ elim (cases_Bool (eqb b 0x56)) [
          | inl y ↦
              let k = eqb-true b 0x56 y in
              let v = read_voice_voice rows bs s (sym (at_voice m voices rows b bs k) ∙ e) in
              record { no_rows = v.0; long = omega (arith, v.1); mark = k; number = v.2; passes = v.3 }
          | inr y ↦
              let f = front_row m (b ∷ bs) in
              absurd (no_voice (judged m (fresh_table voices rows) (post f)) f s (sym (at_row m voices rows b bs (eqb-false b 0x5A x) (eqb-false b 0x56 y)) ∙ e))
        ]
      ]

  pub row_here : (bs r : List ℕ) → read_record m voices rows bs ≡ reads_row r → RowHere m voices rows bs r
  row_here [] r e = absurd (subst IsRow (sym e) tt)
  row_here (b ∷ bs) r e =
      elim (cases_Bool (eqb b 0x5A)) [
        | inl x ↦ absurd (end_no_row bs r (sym (at_end m voices rows b bs (eqb-true b 0x5A x)) ∙ e))
        | inr x ↦ elim (cases_Bool (eqb b 0x56)) [
          | inl y ↦ absurd (read_voice_no_row rows bs r (sym (at_voice m voices rows b bs (eqb-true b 0x56 y)) ∙ e))
          | inr y ↦
              let f = front_row m (b ∷ bs) in
              let j = judged_row (judged m (fresh_table voices rows) (post f)) f r (sym (at_row m voices rows b bs (eqb-false b 0x5A x) (eqb-false b 0x56 y)) ∙ e) in
              record {
                front = subst (λ (z : List ℕ). z ≡ take (length z) (b ∷ bs)) j.1 (front_part m (b ∷ bs));
                passes = ap (λ (z : List ℕ). judged m (fresh_table voices rows) (post z)) (sym j.1) ∙ j.0;
              }
        ]
      ]

  pub last_here : (bs : List ℕ) → read_record m voices rows bs ≡ reads_end → bs ≡ 0x5A ∷ []
  last_here [] e = absurd (subst IsLast (sym e) tt)
  last_here (b ∷ bs) e =
      elim (cases_Bool (eqb b 0x5A)) [
        | inl x ↦ let k = eqb-true b 0x5A x in last_end b bs k (sym (at_end m voices rows b bs k) ∙ e)
        | inr x ↦ elim (cases_Bool (eqb b 0x56)) [
          | inl y ↦ absurd (read_voice_not_last rows bs (sym (at_voice m voices rows b bs (eqb-true b 0x56 y)) ∙ e))
          | inr y ↦
              let f = front_row m (b ∷ bs) in
              absurd (never_last (judged m (fresh_table voices rows) (post f)) (reads_row f) (λ z. z) (sym (at_row m voices rows b bs (eqb-false b 0x5A x) (eqb-false b 0x56 y)) ∙ e))
        ]
      ]
