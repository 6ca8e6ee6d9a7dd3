use Rattle.std.proofs.Common.{◌≡◌, ◌<◌, ◌≤◌, length, take, Some, Ok, Err, vec_items, sym, refl, ap, ◌∙◌, w64}
use Rattle.std.specs.Int.{from_le_bytes}
use Rattle.std.proofs.lemmas.List.{length-map}
use Rattle.std.proofs.lemmas.Result.{err_from_is_err_and}
use Rattle.std.proofs.lemmas.Bool.{eqb-true, eqb-false}
use Rattle.rows.specs.Views.{row_of}
use Rattle.search.specs.Calls.{fresh_table, judged}
use Rattle.search.specs.Calls.Call.{declare}
use Rattle.table.specs.Shown.{model, store_in, rows_in}
use Rattle.sheets.specs.declared.refusal.RecordRefusal.TheVariants.{LateVoice, CutVoice}
use Rattle.sheets.specs.declared.refusal.Layer.TheVariants.{Sheet}
use Rattle.sheets.specs.Reading.{read_voice_record, if_passes}
use Rattle.sheets.specs.Reading.RecordReading.{reads_voice, reads_fault}
use Rattle.sheets.proofs.Records.{late_voice, cut_voice, whole_voice}
use Rattle.sheets.proofs.Steps.{at_reading, voice_declared, voice_refused}
use Rattle.sheets.proofs.load.read_voice_record.Goals as goal

pub returns-then-not-is_empty : goal.returns-then-not-is_empty
returns-then-not-is_empty g c =
    let m = g.B.Bank.meaning in
    let t = c.args.table.now in
    let bs = c.args.rest.now in
    let some : length (rows_in t) ≡ 0 → ⊥ = λ z. eqb-false (length c.rows.result.now) 0 (sym c.if-not-is_empty.ensures) (sym (length-map c.rows.result.now row_of) ∙ ap length c.rows.ensures ∙ z) in
    at_reading g.S.Store.behaviour m (model t) (model t) (store_in t) (store_in t) (reads_fault 3 0 Sheet) (read_voice_record m (vec_items t.voices) (rows_in t) bs) (Err LateVoice)
    (late_voice m (vec_items t.voices) (rows_in t) bs some)
    (record { answer = refl; table = c.requires; store = refl })

pub returns-in_default : goal.returns-in_default
returns-in_default g c =
    let m = g.B.Bank.meaning in
    let t = c.args.table.now in
    let bs = c.args.rest.now in
    let none : length (rows_in t) ≡ 0 = sym (ap length c.rows.ensures) ∙ length-map c.rows.result.now row_of ∙ eqb-true (length c.rows.result.now) 0 (sym c.if-not-is_empty.ensures) in
    let short : length bs < 8 = c.in_default.ensures.cases in
    at_reading g.S.Store.behaviour m (model t) (model t) (store_in t) (store_in t) (reads_fault 6 0 Sheet) (read_voice_record m (vec_items t.voices) (rows_in t) bs) (Err CutVoice)
    (cut_voice m (vec_items t.voices) (rows_in t) bs none short)
    (record { answer = refl; table = c.requires; store = refl })

pub returns-in_err-declare : goal.returns-in_err-declare
returns-in_err-declare g c =
    let m = g.B.Bank.meaning in
    let t = c.args.table.now in
    let u = c.declare.new.self in
    let v = store_in t in
    let w = store_in u in
    let bs = c.args.rest.now in
    let s = c.from_le_bytes.result in
    let r = c.from_residual.result in
    let refusal = c.in_err-declare.field-0.0 in
    let p = err_from_is_err_and r c.from_residual.ensures.1 in
    let d = c.in_err-declare.ensures.does in
    let none : length (rows_in t) ≡ 0 = sym (ap length c.rows.ensures) ∙ length-map c.rows.result.now row_of ∙ eqb-true (length c.rows.result.now) 0 (sym c.if-not-is_empty.ensures) in
    let long : 8 ≤ length bs = c.in-Some.ensures.cases.enough in
    let number : from_le_bytes w64 (take 8 bs) ≡ s = ap (from_le_bytes w64) (sym c.in-Some.ensures.cases.same) ∙ sym c.from_le_bytes.ensures in
    at_reading g.S.Store.behaviour m (model t) (model u) v w (if_passes (judged m (fresh_table (vec_items t.voices) (rows_in t)) (declare s)) (reads_voice s)) (read_voice_record m (vec_items t.voices) (rows_in t) bs) r
    (whole_voice m (vec_items t.voices) (rows_in t) bs s none long number)
    (voice_refused g.S.Store.behaviour m (model t) (model u) v w s r refusal c.requires (p.1 ∙ ap Err p.2) d)

pub returns : goal.returns
returns g c =
    let m = g.B.Bank.meaning in
    let t = c.args.table.now in
    let u = c.declare.new.self in
    let v = store_in t in
    let w = store_in u in
    let bs = c.args.rest.now in
    let s = c.from_le_bytes.result in
    let d = c.in_ok-declare.ensures.does in
    let none : length (rows_in t) ≡ 0 = sym (ap length c.rows.ensures) ∙ length-map c.rows.result.now row_of ∙ eqb-true (length c.rows.result.now) 0 (sym c.if-not-is_empty.ensures) in
    let long : 8 ≤ length bs = c.in-Some.ensures.cases.enough in
    let number : from_le_bytes w64 (take 8 bs) ≡ s = ap (from_le_bytes w64) (sym c.in-Some.ensures.cases.same) ∙ sym c.from_le_bytes.ensures in
    at_reading g.S.Store.behaviour m (model t) (model u) v w (if_passes (judged m (fresh_table (vec_items t.voices) (rows_in t)) (declare s)) (reads_voice s)) (read_voice_record m (vec_items t.voices) (rows_in t) bs) (Ok (Some 9))
    (whole_voice m (vec_items t.voices) (rows_in t) bs s none long number)
    (voice_declared g.S.Store.behaviour m (model t) (model u) v w s d)
