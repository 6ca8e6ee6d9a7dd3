-- A sheet read to its end or to its first fault: the calls that it stands for, and its bytes.
use Rattle.std.proofs.Common.{◌≡◌, ℕ, zero, suc, ◌+◌, ◌^◌, ◌<◌, ◌≤◌, ltb, get_or, List, [], ◌∷◌, ◌++◌, length, take, drop, sym, refl, ap, ◌∙◌, subst, inl, inr, arith}
use Rattle.std.proofs.lemmas.List.{append-nil, append_assoc, length-append, length-take, length-take-le, length-drop, take-append-drop, get_or_past}
use Rattle.std.proofs.lemmas.Nat.{le_bytes_8}
use Rattle.std.specs.Int.{w64, to_le_bytes, from_le_bytes}
use Rattle.std.proofs.lemmas.Grind.{flat_map-append}
use Rattle.std.proofs.lemmas.Bool.{cases_lt, and_parts, not-false, ltb-true}
use Rattle.rows.specs.Rows.{RowData, Meaning}
use Rattle.rows.specs.Laws.{Laws}
use Rattle.rows.specs.Bytes.{Bytes, lettered, LaidOut, decode, encode}
use Rattle.rows.proofs.Layouts.{bytes_take, bytes_drop, bytes_both_ways}
use Rattle.rows.specs.WrittenRows.{written_row}
use Rattle.rows.proofs.RowBytes.{row_same}
use Rattle.stores.specs.Behaviours.{Behaviour}
use Rattle.stores.specs.Bare.{bare}
use Rattle.rows.specs.Reasons.{Judgement}
use Rattle.search.specs.Calls.{TableData, fresh_table, Call, Answer, reasons, judged, Does}
use Rattle.search.specs.Calls.Call.{declare, post}
use Rattle.search.specs.Calls.Answer.{done}
use Rattle.search.specs.Histories.{History, LeadsTo}
use Rattle.search.proofs.AnyStore.{history_any}
use Rattle.search.proofs.HistoryFacts.{none_fits, layout, fit}
use Rattle.search.proofs.OverEvery.{limits_hold}
use Rattle.sheets.specs.declared.refusal.Layer.{Layer}
use Rattle.sheets.specs.Sheets.{voice_record, voice_records, row_records, records, sheet}
use Rattle.sheets.specs.Reading.{RecordReading, read_record, SheetReading, read_on, read_from, read_sheet}
use Rattle.sheets.specs.Reading.RecordReading.{reads_end, reads_voice, reads_row, reads_fault}
use Rattle.sheets.specs.Reading.SheetReading.{accepted, faulty}
use Rattle.sheets.specs.Laws.{Holdable, FirstFault, declared_after, posted_after}
use Rattle.sheets.proofs.Records.{VoiceHere, RowHere, voice_here, row_here, last_here}
use Rattle.sheets.specs.Loading.{Fills}

-- ---- one record more

voices_push : (voices : List ℕ) (s : ℕ) → voice_records (voices ++ (s ∷ [])) ≡ voice_records voices ++ voice_record s
voices_push voices s = flat_map-append voice_record voices (s ∷ [])

rows_push : (rows : List RowData) (r : RowData) → row_records (rows ++ (r ∷ [])) ≡ row_records rows ++ written_row r
rows_push rows r = flat_map-append written_row rows (r ∷ []) ∙ ap (λ (y : List ℕ). row_records rows ++ y) (append-nil (written_row r))

records_voice : (voices : List ℕ) (rows : List RowData) (s : ℕ) → rows ≡ [] → records (voices ++ (s ∷ [])) rows ≡ records voices rows ++ voice_record s
records_voice voices rows s e =
    subst (λ (x : List RowData). records (voices ++ (s ∷ [])) x ≡ records voices x ++ voice_record s) (sym e)
    (append-nil (voice_records (voices ++ (s ∷ []))) ∙ voices_push voices s ∙ ap (λ (y : List ℕ). y ++ voice_record s) (sym (append-nil (voice_records voices))))

records_row : (voices : List ℕ) (rows : List RowData) (r : RowData) → records voices (rows ++ (r ∷ [])) ≡ records voices rows ++ written_row r
records_row voices rows r =
    ap (λ (y : List ℕ). voice_records voices ++ y) (rows_push rows r) ∙ sym (append_assoc (voice_records voices) (row_records rows) (written_row r))

declared_push : (h : List (Call × Answer)) (voices : List ℕ) (s : ℕ) → declared_after h (voices ++ (s ∷ [])) ≡ (declare s, done) ∷ declared_after h voices
declared_push h [] s = refl
declared_push h (x ∷ voices) s = declared_push ((declare x, done) ∷ h) voices s

posted_push : (h : List (Call × Answer)) (rows : List RowData) (r : RowData) → posted_after h (rows ++ (r ∷ [])) ≡ (post (encode r), done) ∷ posted_after h rows
posted_push h [] r = refl
posted_push h (x ∷ rows) r = posted_push ((post (encode x), done) ∷ h) rows r

-- ---- the bytes of a record

byte_anywhere : (bs : List ℕ) → Bytes bs → (i : ℕ) → get_or bs i 0 < 256
byte_anywhere bs b i =
    elim (cases_lt i (length bs)) [
      | inl l ↦ b i l
      | inr l ↦ omega (arith, get_or_past bs i 0 l)
    ]

eight : (bs : List ℕ) → 8 ≤ length bs → Bytes bs → to_le_bytes w64 (from_le_bytes w64 (take 8 bs)) ++ drop 8 bs ≡ bs
eight bs l b =
    ap (λ (x : List ℕ). x ++ drop 8 bs) (le_bytes_8 (take 8 bs) (from_le_bytes w64 (take 8 bs)) (length-take-le 8 bs l) (byte_anywhere (take 8 bs) (bytes_take 8 bs b)) refl)
    ∙ take-append-drop 8 bs

voice_bytes : (m : Meaning) (voices : List ℕ) (rows : List RowData) (bs : List ℕ) (s : ℕ) → VoiceHere m voices rows bs s → Bytes bs → voice_record s ++ drop 9 bs ≡ bs
voice_bytes m voices rows [] s h b = absurd (omega (arith, h.long))
voice_bytes m voices rows (x ∷ bs) s h b =
    ap (λ (k : ℕ). voice_record k ++ drop 8 bs) (sym h.number)
    ∙ ap (λ (k : ℕ). k ∷ (to_le_bytes w64 (from_le_bytes w64 (take 8 bs)) ++ drop 8 bs)) (sym h.mark)
    ∙ ap (λ (y : List ℕ). x ∷ y) (eight bs (omega (arith, h.long)) (bytes_drop 1 (x ∷ bs) b))

voice_fits_word : (m : Meaning) (voices : List ℕ) (rows : List RowData) (bs : List ℕ) (s : ℕ) → VoiceHere m voices rows bs s → Bytes bs → s < 2 ^ 64
voice_fits_word m voices rows bs s h b =
    let x = take 8 (drop 1 bs) in
    let small = byte_anywhere x (bytes_take 8 (drop 1 bs) (bytes_drop 1 bs b)) in
    omega (arith, h.number, small 0, small 1, small 2, small 3, small 4, small 5, small 6, small 7)

row_bytes : (m : Meaning) (voices : List ℕ) (rows : List RowData) (bs r : List ℕ) → RowHere m voices rows bs r → Bytes bs → (Bytes r) × (encode (decode m r) ≡ r) × (r ++ drop (length r) bs ≡ bs) × LaidOut m (decode m r)
row_bytes m voices rows bs r h b =
    let f : Bytes r = subst Bytes (sym h.front) (bytes_take (length r) bs b) in
    let back = (bytes_both_ways m).1 r f (layout m (fresh_table voices rows) r h.passes) in
    (f, back.1, ap (λ (x : List ℕ). x ++ drop (length r) bs) h.front ∙ take-append-drop (length r) bs, back.0)

-- a row that passes has a byte
pub some_row : (m : Meaning) (t : TableData) (r : List ℕ) → judged m t (post r) ≡ Judgement.passes → 0 < length r
some_row m t r j = ltb-true 0 (length r) (and_parts (ltb 0 (length r)) (m.known (get_or r 0 0)) (not-false (lettered m r) (none_fits (reasons m t (post r)) j).0)).0

-- ---- reading on

-- the records of these voices and rows are read, and these bytes are left; from the state w the store has come to x
pub record ReadSo (b : Behaviour) (m : Meaning) (whole : List ℕ) (w : b.State) (at : ℕ) (voices : List ℕ) (rows : List RowData) (bs : List ℕ) (x : b.State) : Type 0 where
  pub placed : at ≡ length (records voices rows)
  pub whole_is : records voices rows ++ bs ≡ whole
  pub bytes : Bytes bs
  pub fills : Fills b m w voices rows x

module _ (b : Behaviour) (m : Meaning) (whole : List ℕ) (w : b.State) where
  pub none_read : Bytes whole → ReadSo b m whole w 0 [] [] whole w
  none_read f = record { placed = refl; whole_is = refl; bytes = f; fills = λ g h H. H }

  pub one_voice : (at : ℕ) (voices : List ℕ) (rows : List RowData) (bs : List ℕ) (x y : b.State) (s : ℕ) → ReadSo b m whole w at voices rows bs x → VoiceHere m voices rows bs s
      → b.empties x y → ReadSo b m whole w (at + 9) (voices ++ (s ∷ [])) rows (drop 9 bs) y
  one_voice at voices rows bs x y s R V e =
      let more = records_voice voices rows s V.no_rows in
      record {
        placed = omega (arith, R.placed, ap length more, length-append (records voices rows) (voice_record s));
        whole_is = ap (λ (z : List ℕ). z ++ drop 9 bs) more ∙ append_assoc (records voices rows) (voice_record s) (drop 9 bs)
            ∙ ap (λ (z : List ℕ). records voices rows ++ z) (voice_bytes m voices rows bs s V R.bytes) ∙ R.whole_is;
        bytes = bytes_drop 9 bs R.bytes;
        fills = λ g h H.
            let before = posted_after (declared_after h voices) rows in
            let same : (declare s, done) ∷ before ≡ posted_after (declared_after h (voices ++ (s ∷ []))) rows =
            subst (λ (z : List RowData). (declare s, done) ∷ posted_after (declared_after h voices) z ≡ posted_after (declared_after h (voices ++ (s ∷ []))) z) (sym V.no_rows) (sym (declared_push h voices s)) in
            subst (λ (z : List (Call × Answer)). LeadsTo b m g z (fresh_table (voices ++ (s ∷ [])) rows) y 0) same
            (History.then before (fresh_table voices rows) (fresh_table (voices ++ (s ∷ [])) rows) x y (declare s) done (R.fills g h H).0 (voice_fits_word m voices rows bs s V R.bytes) (Does.declares s y V.passes e), refl);
      }

  pub one_row : (at : ℕ) (voices : List ℕ) (rows : List RowData) (bs r : List ℕ) (x y : b.State) → ReadSo b m whole w at voices rows bs x → RowHere m voices rows bs r
      → b.empties x y → ReadSo b m whole w (at + length r) voices (rows ++ (decode m r ∷ [])) (drop (length r) bs) y
  one_row at voices rows bs r x y R V e =
      let d = decode m r in
      let f = row_bytes m voices rows bs r V R.bytes in
      let more = records_row voices rows d ∙ ap (λ (z : List ℕ). records voices rows ++ z) (row_same m d f.3) in
      record {
        placed = omega (arith, R.placed, ap length more, length-append (records voices rows) (encode d), ap length f.1);
        whole_is = ap (λ (z : List ℕ). z ++ drop (length r) bs) more ∙ append_assoc (records voices rows) (encode d) (drop (length r) bs)
            ∙ ap (λ (z : List ℕ). records voices rows ++ z) (ap (λ (z : List ℕ). z ++ drop (length r) bs) f.1 ∙ f.2) ∙ R.whole_is;
        bytes = bytes_drop (length r) bs R.bytes;
        fills = λ g h H.
            let before = posted_after (declared_after h voices) rows in
            let same : (post r, done) ∷ before ≡ posted_after (declared_after h voices) (rows ++ (d ∷ [])) =
            ap (λ (z : List ℕ). (post z, done) ∷ before) (sym f.1) ∙ sym (posted_push (declared_after h voices) rows d) in
            subst (λ (z : List (Call × Answer)). LeadsTo b m g z (fresh_table voices (rows ++ (d ∷ []))) y 0) same
            (History.then before (fresh_table voices rows) (fresh_table voices (rows ++ (d ∷ []))) x y (post r) done (R.fills g h H).0 f.0 (Does.posts r y V.passes e), refl);
      }

-- ---- over the bare store, which has one state

abbrev pub BareRead : Meaning → List ℕ → ℕ → List ℕ → List RowData → List ℕ → Type 0
BareRead m whole at voices rows bs = ReadSo bare m whole tt at voices rows bs tt

module _ (m : Meaning) (L : Laws m) (whole : List ℕ) where
  pub holdable : {voices : List ℕ} {rows : List RowData} → Fills bare m tt voices rows tt → Holdable m voices rows
  holdable {voices} {rows} f =
      let H = (f tt [] (History.made tt tt, refl)).0 in
      record { limited = limits_hold bare m tt (posted_after (declared_after [] voices) rows) (fresh_table voices rows) tt H; all_accepted = (fit m L (history_any bare m H)).okay }

  -- the first fault
  abbrev pub fault_at : (at : ℕ) (voices : List ℕ) (rows : List RowData) (bs : List ℕ) (k o : ℕ) (layer : Layer) → BareRead m whole at voices rows bs
      → read_record m voices rows bs ≡ reads_fault k o layer → FirstFault m whole k (at + o) layer
  fault_at at voices rows bs k o layer R f = record {
    voices = voices;
    rows = rows;
    rest = bs;
    offset = o;
    holdable = holdable R.fills;
    before = sym R.whole_is;
    here = f;
    placed = ap (λ (x : ℕ). x + o) R.placed;
  }

  -- what reading the whole comes to: voices and rows that a table can have, of the same bytes, or the first fault
  abbrev pub ReadRight : SheetReading → Type 0
  ReadRight (accepted voices rows) = Holdable m voices rows × (sheet voices rows ≡ whole)
  ReadRight (faulty number place layer) = FirstFault m whole number place layer

  paired_onto : (n at : ℕ) (voices : List ℕ) (rows : List RowData) (bs : List ℕ) → length bs < suc n → BareRead m whole at voices rows bs
      → ((at : ℕ) (voices : List ℕ) (rows : List RowData) (bs : List ℕ) → length bs < n → BareRead m whole at voices rows bs → ReadRight (read_from m n at voices rows bs))
      → (i : RecordReading) → read_record m voices rows bs ≡ i → ReadRight (read_on m (read_from m n) at voices rows bs i)
  paired_onto n at voices rows bs l R next reads_end f =
      (holdable R.fills, ap (λ (x : List ℕ). records voices rows ++ x) (sym (last_here m voices rows bs f)) ∙ R.whole_is)
  paired_onto n at voices rows bs l R next (reads_voice s) f =
      let V = voice_here m voices rows bs s f in
      next (at + 9) (voices ++ (s ∷ [])) rows (drop 9 bs) (omega (arith, l, V.long, length-drop 9 bs)) (one_voice bare m whole tt at voices rows bs tt tt s R V tt)
  paired_onto n at voices rows bs l R next (reads_row r) f =
      let V = row_here m voices rows bs r f in
      next (at + length r) voices (rows ++ (decode m r ∷ [])) (drop (length r) bs)
      (omega (arith, l, some_row m (fresh_table voices rows) r V.passes, length-drop (length r) bs, ap length V.front, length-take (length r) bs)) (one_row bare m whole tt at voices rows bs r tt tt R V tt)
  paired_onto n at voices rows bs l R next (reads_fault k o layer) f = fault_at at voices rows bs k o layer R f

  read_right_from : (n at : ℕ) (voices : List ℕ) (rows : List RowData) (bs : List ℕ) → length bs < n → BareRead m whole at voices rows bs → ReadRight (read_from m n at voices rows bs)
  read_right_from zero at voices rows bs l R = absurd (omega (arith, l))
  read_right_from (suc n) at voices rows bs l R = paired_onto n at voices rows bs l R (read_right_from n) (read_record m voices rows bs) refl

  pub read_right : Bytes whole → ReadRight (read_sheet m whole)
  read_right f = read_right_from (suc (length whole)) 0 [] [] whole (omega arith) (none_read bare m whole tt f)
