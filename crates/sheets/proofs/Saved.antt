-- The sheet of voices and rows that a table can have, read.
use Rattle.std.proofs.Common.{◌≡◌, ℕ, zero, suc, ◌+◌, ◌*◌, ◌^◌, ◌<◌, ◌≤◌, Bool, true, false, not, ◌&&◌, ◌||◌, eqb, ltb, leb, List, [], ◌∷◌, ◌++◌, length, take, drop, Ok, sym, refl, ap, ◌∙◌, subst, arith}
use Rattle.std.proofs.lemmas.List.{append-nil, append_assoc, length-append, take_at, drop_at, get_or_at, get_or_append_left}
use Rattle.std.proofs.lemmas.Bool.{and_from, and_parts, or_from, or_parts, cond-true, lt-ltb, lt-leb, le-ltb, eqb-true, eqb-false, ltb-true}
use Rattle.std.specs.Int.{w64, to_le_bytes, from_le_bytes}
use Rattle.std.proofs.lemmas.Nat.{from_le_bytes-to_le_bytes_8}
use Rattle.rows.specs.Rows.{RowData, Meaning, Verdict}
use Rattle.rows.specs.Laws.{Laws, Accepted}
use Rattle.rows.specs.Bytes.{count_byte, head_length, lettered, counted, right_length, marked, Layout, LaidOut, decode, encode, member_bytes, total_bytes}
use Rattle.rows.proofs.Layouts.{bytes_both_ways}
use Rattle.rows.proofs.RowBytes.{row_same}
use Rattle.rows.specs.declared.limits.TheConstants.{MOST_ROWS, MOST_BYTES}
use Rattle.rows.specs.Reasons.{Judgement, judge, kind_refuses}
use Rattle.search.specs.Calls.{fresh_table, judged}
use Rattle.search.specs.Calls.Call.{post}
use Rattle.rows.specs.Placed.{AllAccepted}
use Rattle.search.specs.Results.{AllLaidOut}
use Rattle.table.proofs.Judging.{voice_fits}
use Rattle.sheets.specs.Sheets.{voice_record, voice_records, row_records, sheet}
use Rattle.sheets.specs.Reading.{if_passes, front_row, read_record, read_on, read_from, read_sheet}
use Rattle.sheets.specs.Reading.RecordReading.{reads_voice, reads_row}
use Rattle.sheets.specs.Reading.SheetReading.{accepted}
use Rattle.sheets.specs.Laws.{Holdable}
use Rattle.sheets.proofs.Records.{whole_voice, at_voice, at_row}

-- ---- one row of many

total_append : (xs ys : List RowData) → total_bytes (xs ++ ys) ≡ total_bytes xs + total_bytes ys
total_append [] ys = omega arith
total_append (x ∷ xs) ys = omega (arith, total_append xs ys)

accepted_at : (m : Meaning) (xs : List RowData) (r : RowData) (ys : List RowData) (n : ℕ) → AllAccepted m (xs ++ (r ∷ ys)) n → Accepted m r n
accepted_at m [] r ys n a = a.0
accepted_at m (x ∷ xs) r ys n a = accepted_at m xs r ys n a.1

laid_out_at : (m : Meaning) (xs : List RowData) (r : RowData) (ys : List RowData) → AllLaidOut m (xs ++ (r ∷ ys)) → LaidOut m r
laid_out_at m [] r ys a = a.0
laid_out_at m (x ∷ xs) r ys a = laid_out_at m xs r ys a.1

-- ---- a row that fits is accepted

all_pass : (a b c d : Bool) (x : Verdict) (full : Bool) → a ≡ true → b ≡ true → c ≡ true → d ≡ true → x ≡ Ok tt → full ≡ false
    → judge ((2, not a) ∷ (5, not b) ∷ (6, not c) ∷ (7, not d) ∷ (8, kind_refuses 8 x) ∷ (9, kind_refuses 9 x) ∷ (12, full) ∷ []) ≡ Judgement.passes
all_pass a b c d x full e f g h i j =
    ap (λ (y : Bool). judge ((2, not y) ∷ (5, not b) ∷ (6, not c) ∷ (7, not d) ∷ (8, kind_refuses 8 x) ∷ (9, kind_refuses 9 x) ∷ (12, full) ∷ [])) e
    ∙ ap (λ (y : Bool). judge ((5, not y) ∷ (6, not c) ∷ (7, not d) ∷ (8, kind_refuses 8 x) ∷ (9, kind_refuses 9 x) ∷ (12, full) ∷ [])) f
    ∙ ap (λ (y : Bool). judge ((6, not y) ∷ (7, not d) ∷ (8, kind_refuses 8 x) ∷ (9, kind_refuses 9 x) ∷ (12, full) ∷ [])) g
    ∙ ap (λ (y : Bool). judge ((7, not y) ∷ (8, kind_refuses 8 x) ∷ (9, kind_refuses 9 x) ∷ (12, full) ∷ [])) h
    ∙ ap (λ (y : Verdict). judge ((8, kind_refuses 8 y) ∷ (9, kind_refuses 9 y) ∷ (12, full) ∷ [])) i
    ∙ ap (λ (y : Bool). judge ((12, y) ∷ [])) j

module _ (m : Meaning) (L : Laws m) where
  row_passes : (voices : List ℕ) (rows : List RowData) (r : RowData) (rest : List RowData) → Holdable m voices (rows ++ (r ∷ rest)) → judged m (fresh_table voices rows) (post (encode r)) ≡ Judgement.passes
  row_passes voices rows r rest H =
      let w = (bytes_both_ways m).0 r (laid_out_at m rows r rest H.limited.laid_out) in
      let y = w.1 in
      let few : length rows < MOST_ROWS = omega (arith, H.limited.rows, length-append rows (r ∷ rest)) in
      let short : total_bytes rows + length (encode r) ≤ MOST_BYTES = omega (arith, H.limited.bytes, total_append rows (r ∷ rest)) in
      all_pass (lettered m (encode r)) (counted (encode r)) (right_length m (encode r)) (marked (drop (head_length m (encode r)) (encode r))) (m.accepts (decode m (encode r)) (length voices))
      (leb MOST_ROWS (length rows) || ltb MOST_BYTES (total_bytes rows + length (encode r)))
      y.letters y.counts y.long y.marks
      (ap (λ (x : RowData). m.accepts x (length voices)) w.2 ∙ (accepted_at m rows r rest (length voices) H.all_accepted).yes)
      (or_from (leb MOST_ROWS (length rows)) (ltb MOST_BYTES (total_bytes rows + length (encode r))) (lt-leb MOST_ROWS (length rows) few) (le-ltb MOST_BYTES (total_bytes rows + length (encode r)) short))

  -- the row at the front of its bytes and others
  row_front : (r : RowData) (others : List ℕ) → Layout m (encode r) → front_row m (encode r ++ others) ≡ encode r
  row_front r others y =
      let bs = encode r ++ others in
      let two : 1 < length (encode r) = ltb-true 1 (length (encode r)) (and_parts (ltb 1 (length (encode r))) (leb 1 (count_byte (encode r)) && leb (count_byte (encode r)) 32) y.counts).0 in
      let known = (and_parts (ltb 0 (length (encode r))) (m.known r.letter) y.letters).1 in
      let count : count_byte bs ≡ count_byte (encode r) = get_or_append_left (encode r) others 0 1 two in
      let long : length (encode r) ≡ head_length m bs + 4 * count_byte bs = omega (arith, eqb-true (length (encode r)) (head_length m (encode r) + 4 * count_byte (encode r)) y.long, count) in
      cond-true (lettered m bs) (take (head_length m bs + 4 * count_byte bs) bs) bs
      (and_from (ltb 0 (length bs)) (m.known r.letter) (lt-ltb 0 (length bs) (omega (arith, two, length-append (encode r) others))) known)
      ∙ take_at (encode r) others (head_length m bs + 4 * count_byte bs) long

  read_row_here : (voices : List ℕ) (rows : List RowData) (r : RowData) (rest : List RowData) (others : List ℕ) → Holdable m voices (rows ++ (r ∷ rest))
      → read_record m voices rows (encode r ++ others) ≡ reads_row (encode r)
  read_row_here voices rows r rest others H =
      let o = laid_out_at m rows r rest H.limited.laid_out in
      let free = or_parts (eqb r.letter 0x56) (eqb r.letter 0x5A || eqb r.letter 0x4D) (L.lettered r.letter o.shape.known_letter).free in
      let free-end = or_parts (eqb r.letter 0x5A) (eqb r.letter 0x4D) free.1 in
      let front = row_front r others ((bytes_both_ways m).0 r o).1 in
      at_row m voices rows r.letter ((r.body ++ member_bytes r.members) ++ others) (eqb-false r.letter 0x5A free-end.0) (eqb-false r.letter 0x56 free.0)
      ∙ ap (λ (x : List ℕ). if_passes (judged m (fresh_table voices rows) (post x)) (reads_row x)) front
      ∙ ap (λ (j : Judgement). if_passes j (reads_row (encode r))) (row_passes voices rows r rest H)

  rows_load : (rest : List RowData) (n at : ℕ) (voices : List ℕ) (rows : List RowData) → Holdable m voices (rows ++ rest) → length (row_records rest ++ (0x5A ∷ [])) < n
      → read_from m n at voices rows (row_records rest ++ (0x5A ∷ [])) ≡ accepted voices (rows ++ rest)
  rows_load [] zero at voices rows H l = absurd (omega (arith, l))
  rows_load [] (suc n) at voices rows H l = ap (accepted voices) (sym (append-nil rows))
  rows_load (r ∷ rest) zero at voices rows H l = absurd (omega (arith, l))
  rows_load (r ∷ rest) (suc n) at voices rows H l =
      let others = row_records rest ++ (0x5A ∷ []) in
      let same = row_same m r (laid_out_at m rows r rest H.limited.laid_out) in
      let split = ap (λ (x : List ℕ). (x ++ row_records rest) ++ (0x5A ∷ [])) same ∙ append_assoc (encode r) (row_records rest) (0x5A ∷ []) in
      let back = ((bytes_both_ways m).0 r (laid_out_at m rows r rest H.limited.laid_out)).2 in
      let more = append_assoc rows (r ∷ []) rest in
      ap (read_from m (suc n) at voices rows) split
      ∙ ap (read_on m (read_from m n) at voices rows (encode r ++ others)) (read_row_here voices rows r rest others H)
      ∙ ap (read_from m n (at + length (encode r)) voices (rows ++ (decode m (encode r) ∷ []))) (drop_at (encode r) others (length (encode r)) refl)
      ∙ ap (λ (x : RowData). read_from m n (at + length (encode r)) voices (rows ++ (x ∷ [])) others) back
      ∙ rows_load rest n (at + length (encode r)) voices (rows ++ (r ∷ [])) (subst (Holdable m voices) (sym more) H)
      (omega (arith, l, ap length split, length-append (encode r) others))
      ∙ ap (accepted voices) more

  read_voice_here : (voices : List ℕ) (s : ℕ) (rest : List ℕ) (rows : List RowData) (others : List ℕ) → Holdable m (voices ++ (s ∷ rest)) rows → read_record m voices [] (voice_record s ++ others) ≡ reads_voice s
  read_voice_here voices s rest rows others H =
      let all = voices ++ (s ∷ rest) in
      let long = length-append voices (s ∷ rest) in
      let p = H.limited.sets (length voices) (omega (arith, long)) in
      let at = get_or_at voices s rest 0 (length voices) refl in
      let some : 0 < s = subst (λ (x : ℕ). 0 < x) at p.0 in
      let fits : s < 2 ^ 64 = subst (λ (x : ℕ). x < 2 ^ 64) at p.1 in
      let low = to_le_bytes w64 s in
      let number : from_le_bytes w64 (take 8 (low ++ others)) ≡ s = ap (from_le_bytes w64) (take_at low others 8 refl) ∙ from_le_bytes-to_le_bytes_8 s fits in
      at_voice m voices [] 0x56 (low ++ others) refl
      ∙ whole_voice m voices [] (low ++ others) s refl (omega (arith, length-append low others)) number
      ∙ ap (λ (j : Judgement). if_passes j (reads_voice s)) (voice_fits m (fresh_table voices []) s (λ z. omega (arith, some, z)) (omega (arith, H.limited.voices, long)))

  voices_load : (rest : List ℕ) (rows : List RowData) (n at : ℕ) (voices : List ℕ) → Holdable m (voices ++ rest) rows → length (voice_records rest ++ (row_records rows ++ (0x5A ∷ []))) < n
      → read_from m n at voices [] (voice_records rest ++ (row_records rows ++ (0x5A ∷ []))) ≡ accepted (voices ++ rest) rows
  voices_load [] rows n at voices H l =
      rows_load rows n at voices [] (subst (λ (x : List ℕ). Holdable m x rows) (append-nil voices) H) l ∙ ap (λ (x : List ℕ). accepted x rows) (sym (append-nil voices))
  voices_load (s ∷ rest) rows zero at voices H l = absurd (omega (arith, l))
  voices_load (s ∷ rest) rows (suc n) at voices H l =
      let end = row_records rows ++ (0x5A ∷ []) in
      let others = voice_records rest ++ end in
      let split = append_assoc (voice_record s) (voice_records rest) end in
      let more = append_assoc voices (s ∷ []) rest in
      ap (read_from m (suc n) at voices []) split
      ∙ ap (read_on m (read_from m n) at voices [] (voice_record s ++ others)) (read_voice_here voices s rest rows others H)
      ∙ ap (read_from m n (at + 9) (voices ++ (s ∷ [])) []) (drop_at (voice_record s) others 9 refl)
      ∙ voices_load rest rows n (at + 9) (voices ++ (s ∷ [])) (subst (λ (x : List ℕ). Holdable m x rows) (sym more) H) (omega (arith, l, ap length split, length-append (voice_record s) others))
      ∙ ap (λ (x : List ℕ). accepted x rows) more

  pub saved_loads : (voices : List ℕ) (rows : List RowData) → Holdable m voices rows → read_sheet m (sheet voices rows) ≡ accepted voices rows
  saved_loads voices rows H =
      let split = append_assoc (voice_records voices) (row_records rows) (0x5A ∷ []) in
      ap (read_sheet m) split ∙ voices_load voices rows (suc (length (voice_records voices ++ (row_records rows ++ (0x5A ∷ []))))) 0 [] H (omega arith)
