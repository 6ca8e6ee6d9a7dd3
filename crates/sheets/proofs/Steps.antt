-- One record read by the code, and the records read so far.
use Rattle.std.proofs.Common.{◌≡◌, ℕ, zero, suc, ◌+◌, ◌-◌, ◌<◌, ◌≤◌, List, [], ◌∷◌, ◌++◌, length, drop, Some, None, Ok, Err, Option, Result, sym, refl, ap, ◌∙◌, subst, subst₂, arith}
use Rattle.std.proofs.lemmas.List.{length-drop, length-take, drop-drop}
use Rattle.rows.specs.Rows.{Meaning}
use Rattle.rows.specs.Laws.{Laws}
use Rattle.rows.specs.Bytes.{Bytes, decode}
use Rattle.stores.specs.Behaviours.{Behaviour}
use Rattle.stores.specs.Bare.{bare}
use Rattle.rows.specs.Reasons.{Judgement}
use Rattle.search.specs.Calls.{TableData, fresh_table, empty, Answer, judged, Does}
use Rattle.search.specs.Calls.Call.{declare, post, wipe}
use Rattle.table.specs.declared.refusal.Refusal.{Refusal}
use Rattle.table.specs.Refusals.{refusal_number}
use Rattle.sheets.specs.declared.refusal.RecordRefusal.{RecordRefusal}
use Rattle.sheets.specs.declared.refusal.RecordRefusal.TheVariants.{ByTable}
use Rattle.sheets.specs.Causes.{cause_number, cause_layer, cause_offset}
use Rattle.sheets.specs.Reading.{RecordReading, if_passes, read_record, SheetReading, read_from, read_on, read_sheet}
use Rattle.sheets.specs.Reading.RecordReading.{reads_end, reads_voice, reads_row, reads_fault}
use Rattle.sheets.specs.Reading.SheetReading.{faulty}
use Rattle.sheets.specs.Loading.{RecordAnswer, record_answer, reading_record_answer, record_table, Unsearched, RecordStored, RecordRead, Fills, RecordsRead}
use Rattle.sheets.specs.Loading.RecordAnswer.{sheet_end, record_length, record_fault}
use Rattle.sheets.proofs.Records.{voice_here, row_here}
use Rattle.sheets.proofs.Loaded.{ReadSo, BareRead, none_read, one_voice, one_row, fault_at, some_row}

-- ---- a record whose call was made

module _ (b : Behaviour) (m : Meaning) (t u : TableData) (v w : b.State) where
  -- the call was accepted
  passed : (j : Judgement) (i : RecordReading) (n : ℕ) → j ≡ Judgement.passes → record_length n ≡ reading_record_answer i → u ≡ record_table m t.voices t.rows i → RecordStored b i v w
      → RecordRead b m t v (if_passes j i) (Ok (Some n)) u w
  passed j i n e f g h = subst (λ (x : Judgement). RecordRead b m t v (if_passes x i) (Ok (Some n)) u w) (sym e) (record { answer = f; table = g; store = h })

  -- it was refused
  turned_down : (j : Judgement) (i : RecordReading) (r : Result (Option ℕ) RecordRefusal) (refusal : Refusal) → Unsearched t → r ≡ Err (ByTable refusal)
      → (j ≡ Judgement.refused_under (refusal_number refusal)) × (u ≡ t) × (w ≡ v) → RecordRead b m t v (if_passes j i) r u w
  turned_down j i r refusal U e d =
      subst (λ (x : Judgement). RecordRead b m t v (if_passes x i) r u w) (sym d.0)
      (record { answer = ap record_answer e; table = d.1 ∙ U; store = d.2 })

declared_by : (b : Behaviour) (m : Meaning) (t u : TableData) (v w : b.State) (s : ℕ) → Does b m t v (declare s) Answer.done u w
    → (judged m t (declare s) ≡ Judgement.passes) × (u ≡ fresh_table (t.voices ++ (s ∷ [])) t.rows) × b.empties v w
declared_by b m t u v w s (Does.declares s' w' j e) = (j, refl, e)

posted_by : (b : Behaviour) (m : Meaning) (t u : TableData) (v w : b.State) (bs : List ℕ) → Does b m t v (post bs) Answer.done u w
    → (judged m t (post bs) ≡ Judgement.passes) × (u ≡ fresh_table t.voices (t.rows ++ (decode m bs ∷ []))) × b.empties v w
posted_by b m t u v w bs (Does.posts bs' w' j e) = (j, refl, e)

declare_refused : (b : Behaviour) (m : Meaning) (t u : TableData) (v w : b.State) (s n : ℕ) → Does b m t v (declare s) (Answer.refused n) u w
    → (judged m t (declare s) ≡ Judgement.refused_under n) × (u ≡ t) × (w ≡ v)
declare_refused b m t u v w s n (Does.refuses c n' j) = (j, refl, refl)

post_refused : (b : Behaviour) (m : Meaning) (t u : TableData) (v w : b.State) (bs : List ℕ) (n : ℕ) → Does b m t v (post bs) (Answer.refused n) u w
    → (judged m t (post bs) ≡ Judgement.refused_under n) × (u ≡ t) × (w ≡ v)
post_refused b m t u v w bs n (Does.refuses c n' j) = (j, refl, refl)

pub at_reading : (b : Behaviour) (m : Meaning) (t u : TableData) (v w : b.State) (i i' : RecordReading) (r : Result (Option ℕ) RecordRefusal) → i' ≡ i → RecordRead b m t v i r u w → RecordRead b m t v i' r u w
at_reading b m t u v w i i' r e h = subst (λ (x : RecordReading). RecordRead b m t v x r u w) (sym e) h

module _ (b : Behaviour) (m : Meaning) (t u : TableData) (v w : b.State) where
  pub voice_declared : (s : ℕ) → Does b m t v (declare s) Answer.done u w → RecordRead b m t v (if_passes (judged m (fresh_table t.voices t.rows) (declare s)) (reads_voice s)) (Ok (Some 9)) u w
  voice_declared s D =
      let d = declared_by b m t u v w s D in
      passed b m t u v w (judged m t (declare s)) (reads_voice s) 9 d.0 refl d.1 d.2

  pub voice_refused : (s : ℕ) (r : Result (Option ℕ) RecordRefusal) (refusal : Refusal) → Unsearched t → r ≡ Err (ByTable refusal)
      → Does b m t v (declare s) (Answer.refused (refusal_number refusal)) u w → RecordRead b m t v (if_passes (judged m (fresh_table t.voices t.rows) (declare s)) (reads_voice s)) r u w
  voice_refused s r refusal U e D =
      turned_down b m t u v w (judged m t (declare s)) (reads_voice s) r refusal U e (declare_refused b m t u v w s (refusal_number refusal) D)

  pub row_posted : (bs : List ℕ) → Does b m t v (post bs) Answer.done u w
      → RecordRead b m t v (if_passes (judged m (fresh_table t.voices t.rows) (post bs)) (reads_row bs)) (Ok (Some (length bs))) u w
  row_posted bs D =
      let d = posted_by b m t u v w bs D in
      passed b m t u v w (judged m t (post bs)) (reads_row bs) (length bs) d.0 refl d.1 d.2

  pub row_refused : (bs : List ℕ) (r : Result (Option ℕ) RecordRefusal) (refusal : Refusal) → Unsearched t → r ≡ Err (ByTable refusal)
      → Does b m t v (post bs) (Answer.refused (refusal_number refusal)) u w → RecordRead b m t v (if_passes (judged m (fresh_table t.voices t.rows) (post bs)) (reads_row bs)) r u w
  row_refused bs r refusal U e D =
      turned_down b m t u v w (judged m t (post bs)) (reads_row bs) r refusal U e (post_refused b m t u v w bs (refusal_number refusal) D)

-- ---- the records so far

-- Records were read up to the place `at`, from the state w on: reading on gives what reading the sheet gives.
pub record SoFar (b : Behaviour) (m : Meaning) (bs : List ℕ) (w : b.State) (t : TableData) (v : b.State) (at : ℕ) : Type 0 where
  pub unsearched : Unsearched t
  pub inside : at ≤ length bs
  pub bound : ℕ
  pub enough : length bs < at + bound
  pub same : read_from m bound at t.voices t.rows (drop at bs) ≡ read_sheet m bs
  pub read : ReadSo b m bs w at t.voices t.rows (drop at bs) v
  pub bare_read : BareRead m bs at t.voices t.rows (drop at bs)

pub none_so_far : (b : Behaviour) (m : Meaning) (bs : List ℕ) (w : b.State) (t : TableData) → Bytes bs → t ≡ empty → SoFar b m bs w t w 0
none_so_far b m bs w t f e = subst (λ (x : TableData). SoFar b m bs w x w 0) (sym e) (record {
  unsearched = refl;
  inside = omega arith;
  bound = suc (length bs);
  enough = omega arith;
  same = refl;
  read = none_read b m bs w f;
  bare_read = none_read bare m bs tt f;
})

-- where the rest begins with a record of n bytes
pub record Longer (b : Behaviour) (m : Meaning) (bs : List ℕ) (w : b.State) (u : TableData) (x : b.State) (at n : ℕ) : Type 0 where
  pub some : 0 < n
  pub so_far : SoFar b m bs w u x (at + n)

module _ (b : Behaviour) (m : Meaning) (bs : List ℕ) (w : b.State) (t : TableData) (v : b.State) (at : ℕ) (S : SoFar b m bs w t v at) where
  -- the rest, one record further
  on : (i : RecordReading) → read_record m t.voices t.rows (drop at bs) ≡ i
      → (k : ℕ) × (length bs < at + suc k) × (read_on m (read_from m k) at t.voices t.rows (drop at bs) i ≡ read_sheet m bs)
  on i e = on_by S.bound S.enough S.same
    where
      on_by : (k : ℕ) → length bs < at + k → read_from m k at t.voices t.rows (drop at bs) ≡ read_sheet m bs
          → (k : ℕ) × (length bs < at + suc k) × (read_on m (read_from m k) at t.voices t.rows (drop at bs) i ≡ read_sheet m bs)
      on_by zero l s = absurd (omega (arith, S.inside))
      on_by (suc k) l s = (k, l, ap (read_on m (read_from m k) at t.voices t.rows (drop at bs)) (sym e) ∙ s)

  pub further : (n : ℕ) (u : TableData) (x : b.State) → RecordRead b m t v (read_record m t.voices t.rows (drop at bs)) (Ok (Some n)) u x → Longer b m bs w u x at n
  further n u x h = by (read_record m t.voices t.rows (drop at bs)) refl h.answer h.table h.store
    where
      by : (i : RecordReading) → read_record m t.voices t.rows (drop at bs) ≡ i → record_length n ≡ reading_record_answer i → u ≡ record_table m t.voices t.rows i → RecordStored b i v x → Longer b m bs w u x at n
      by reads_end e f g k = let z : ◌≡◌ {A = ℕ} 0 1 = cc in absurd (omega arith)
      by (reads_voice s) e f g k =
          let here = voice_here m t.voices t.rows (drop at bs) s e in
          let rest = on (reads_voice s) e in
          let nine : n ≡ 9 = cc in
          let next : Longer b m bs w (fresh_table (t.voices ++ (s ∷ [])) t.rows) x at 9 =
          record {
            some = omega arith;
            so_far = record {
              unsearched = refl;
              inside = omega (arith, here.long, length-drop at bs);
              bound = rest.0;
              enough = omega (arith, rest.1);
              same = ap (read_from m rest.0 (at + 9) (t.voices ++ (s ∷ [])) t.rows) (sym (drop-drop 9 at bs)) ∙ rest.2;
              read = subst (λ (y : List ℕ). ReadSo b m bs w (at + 9) (t.voices ++ (s ∷ [])) t.rows y x) (drop-drop 9 at bs)
                  (one_voice b m bs w at t.voices t.rows (drop at bs) v x s S.read here k);
              bare_read = subst (BareRead m bs (at + 9) (t.voices ++ (s ∷ [])) t.rows) (drop-drop 9 at bs)
                  (one_voice bare m bs tt at t.voices t.rows (drop at bs) tt tt s S.bare_read here tt);
            };
          } in
          subst (λ (y : ℕ). Longer b m bs w u x at y) (sym nine) (subst (λ (y : TableData). Longer b m bs w y x at 9) (sym g) next)
      by (reads_row r) e f g k =
          let here = row_here m t.voices t.rows (drop at bs) r e in
          let rest = on (reads_row r) e in
          let long : n ≡ length r = cc in
          let next : Longer b m bs w (fresh_table t.voices (t.rows ++ (decode m r ∷ []))) x at (length r) =
          record {
            some = some_row m (fresh_table t.voices t.rows) r here.passes;
            so_far = record {
              unsearched = refl;
              inside = omega (arith, S.inside, ap length here.front, length-take (length r) (drop at bs), length-drop at bs);
              bound = rest.0;
              enough = omega (arith, rest.1, some_row m (fresh_table t.voices t.rows) r here.passes);
              same = ap (read_from m rest.0 (at + length r) t.voices (t.rows ++ (decode m r ∷ []))) (sym (drop-drop (length r) at bs)) ∙ rest.2;
              read = subst (λ (y : List ℕ). ReadSo b m bs w (at + length r) t.voices (t.rows ++ (decode m r ∷ [])) y x) (drop-drop (length r) at bs)
                  (one_row b m bs w at t.voices t.rows (drop at bs) r v x S.read here k);
              bare_read = subst (BareRead m bs (at + length r) t.voices (t.rows ++ (decode m r ∷ []))) (drop-drop (length r) at bs)
                  (one_row bare m bs tt at t.voices t.rows (drop at bs) r tt tt S.bare_read here tt);
            };
          } in
          subst (λ (y : ℕ). Longer b m bs w u x at y) (sym long) (subst (λ (y : TableData). Longer b m bs w y x at (length r)) (sym g) next)
      by (reads_fault k' o l) e f g k = let z : ◌≡◌ {A = ℕ} 0 1 = cc in absurd (omega arith)

  pub ended : (u : TableData) (x : b.State) → RecordRead b m t v (read_record m t.voices t.rows (drop at bs)) (Ok None) u x
      → RecordsRead b m bs w u x (read_sheet m bs) (Ok tt)
  ended u x h = by (read_record m t.voices t.rows (drop at bs)) refl h.answer h.table h.store
    where
      by : (i : RecordReading) → read_record m t.voices t.rows (drop at bs) ≡ i → sheet_end ≡ reading_record_answer i → u ≡ record_table m t.voices t.rows i → RecordStored b i v x
          → RecordsRead b m bs w u x (read_sheet m bs) (Ok tt)
      by reads_end e f g k =
          let rest = on reads_end e in
          subst (λ (o : SheetReading). RecordsRead b m bs w u x o (Ok tt)) rest.2
          (RecordsRead.ended t.voices t.rows g (subst (Fills b m w t.voices t.rows) (sym k) S.read.fills))
      by (reads_voice s) e f g k = let z : ◌≡◌ {A = ℕ} 0 1 = cc in absurd (omega arith)
      by (reads_row r) e f g k = let z : ◌≡◌ {A = ℕ} 0 1 = cc in absurd (omega arith)
      by (reads_fault k' o l) e f g k = let z : ◌≡◌ {A = ℕ} 0 1 = cc in absurd (omega arith)

  pub faulted : Laws m → (cause : RecordRefusal) (place : ℕ) (u : TableData) (x : b.State) → place ≡ at + cause_offset cause
      → RecordRead b m t v (read_record m t.voices t.rows (drop at bs)) (Err cause) u x
      → RecordsRead b m bs w u x (read_sheet m bs) (Err (record { cause = cause; place = place }))
  faulted L cause place u x p h = by (read_record m t.voices t.rows (drop at bs)) refl h.answer h.table h.store
    where
      by : (i : RecordReading) → read_record m t.voices t.rows (drop at bs) ≡ i → record_fault (cause_number cause) (cause_offset cause) (cause_layer cause) ≡ reading_record_answer i
          → u ≡ record_table m t.voices t.rows i → RecordStored b i v x
          → RecordsRead b m bs w u x (read_sheet m bs) (Err (record { cause = cause; place = place }))
      by reads_end e f g k = let z : ◌≡◌ {A = ℕ} 0 1 = cc in absurd (omega arith)
      by (reads_voice s) e f g k = let z : ◌≡◌ {A = ℕ} 0 1 = cc in absurd (omega arith)
      by (reads_row r) e f g k = let z : ◌≡◌ {A = ℕ} 0 1 = cc in absurd (omega arith)
      by (reads_fault n o y) e f g k =
          let rest = on (reads_fault n o y) e in
          let is : reads_fault n o y ≡ reads_fault (cause_number cause) (cause_offset cause) (cause_layer cause) = ap back (sym f) in
          let first = fault_at m L bs at t.voices t.rows (drop at bs) (cause_number cause) (cause_offset cause) (cause_layer cause) S.bare_read (e ∙ is) in
          let here : RecordsRead b m bs w u x (faulty (cause_number cause) (at + cause_offset cause) (cause_layer cause)) (Err (record { cause = cause; place = at + cause_offset cause })) =
          RecordsRead.faulted cause (at + cause_offset cause) first g (subst (Fills b m w t.voices t.rows) (sym k) S.read.fills) in
          let come : faulty (cause_number cause) (at + cause_offset cause) (cause_layer cause) ≡ read_sheet m bs =
          ap (read_on m (read_from m rest.0) at t.voices t.rows (drop at bs)) (sym is) ∙ rest.2 in
          subst₂ (λ (o : SheetReading) (q : ℕ). RecordsRead b m bs w u x o (Err (record { cause = cause; place = q }))) come (sym p) here
        where
          back : RecordAnswer → RecordReading
          back sheet_end = reads_end
          back (record_length n) = reads_end
          back (record_fault number offset layer) = reads_fault number offset layer

-- ---- the same, with the rest of the bytes at hand

pub record Left (b : Behaviour) (m : Meaning) (bs : List ℕ) (w : b.State) (t : TableData) (v : b.State) (rest : List ℕ) : Type 0 where
  pub so_far : SoFar b m bs w t v (length bs - length rest)
  pub rest-is : rest ≡ drop (length bs - length rest) bs

pub all_left : (b : Behaviour) (m : Meaning) (bs : List ℕ) (w : b.State) (t : TableData) → Bytes bs → t ≡ empty → Left b m bs w t w bs
all_left b m bs w t f e =
    let none : 0 ≡ length bs - length bs = omega arith in
    record { so_far = subst (SoFar b m bs w t w) none (none_so_far b m bs w t f e); rest-is = ap (λ (n : ℕ). drop n bs) none }

module _ {b : Behaviour} {m : Meaning} {bs : List ℕ} {w : b.State} {t : TableData} {v : b.State} {rest : List ℕ} (L : Left b m bs w t v rest) where
  pub left_inside : length rest ≤ length bs
  left_inside = omega (arith, ap length L.rest-is, length-drop (length bs - length rest) bs)

  pub at_left : {u : TableData} {x : b.State} {r s : Result (Option ℕ) RecordRefusal} → r ≡ s → RecordRead b m t v (read_record m t.voices t.rows rest) r u x
      → RecordRead b m t v (read_record m t.voices t.rows (drop (length bs - length rest) bs)) s u x
  at_left {u} {x} {r} {s} e h =
      let i = read_record m t.voices t.rows (drop (length bs - length rest) bs) in
      subst (λ (y : Result (Option ℕ) RecordRefusal). RecordRead b m t v i y u x) e (at_reading b m t u v x (read_record m t.voices t.rows rest) i r (ap (read_record m t.voices t.rows) (sym L.rest-is)) h)

  -- one record further
  pub more_left : {u : TableData} {x : b.State} {r : Result (Option ℕ) RecordRefusal} (n : ℕ) → r ≡ Ok (Some n) → RecordRead b m t v (read_record m t.voices t.rows rest) r u x
      → (0 < n) × (n ≤ length rest) × Left b m bs w u x (drop n rest)
  more_left {u} {x} n e h =
      let l = further b m bs w t v (length bs - length rest) L.so_far n u x (at_left e h) in
      let place : length bs - length rest + n ≡ length bs - length (drop n rest) = omega (arith, length-drop n rest, l.so_far.inside, left_inside) in (
        l.some,
        omega (arith, l.so_far.inside, left_inside),
        record {
          so_far = subst (SoFar b m bs w u x) place l.so_far;
          rest-is = ap (drop n) L.rest-is ∙ drop-drop n (length bs - length rest) bs ∙ ap (λ (k : ℕ). drop k bs) place;
        },
      )

-- ---- a Load's end

pub wiped : (b : Behaviour) (m : Meaning) (t u : TableData) (v w : b.State) → Does b m t v wipe Answer.done u w → (u ≡ empty) × b.empties v w
wiped b m t u v w (Does.wipes w' e) = (refl, e)
