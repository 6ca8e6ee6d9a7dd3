use Rattle.std.proofs.Common.{◌≡◌, ◌+◌, ◌*◌, ◌<◌, ◌≤◌, length, vec_items, sym, ap, ◌∙◌, arith, rules}
use Rattle.std.proofs.lemmas.List.Folds.{flat_map-map}
use Rattle.rows.specs.Views.{row_of}
use Rattle.table.specs.Shown.{model, store_in, rows_in}
use Rattle.rows.specs.Written.{written}
use Rattle.rows.specs.WrittenRows.{written_row}
use Rattle.rows.proofs.Texts.{wrote_two, same_text, wrote_front}
use Rattle.sheets.specs.Sheets.{row_records, voice_records}
use Rattle.sheets.specs.Saving.{sheet_of}
use Rattle.sheets.proofs.LawsHold.{saves_again}
use Rattle.sheets.proofs.Pieces.{sheet_length}
use Rattle.sheets.proofs.SavedBytes.{short_answer, short_after, saved_answer, saved_after}
use Rattle.sheets.proofs.save.save.Goals as goal

pub returns-then-out-length : goal.returns-then-out-length
returns-then-out-length g c =
    let t = c.args.table.now in
    let long = sheet_length (vec_items t.voices) (rows_in t) in
    let short : length c.args.out.now < length (sheet_of c.args.table.now) =
    omega (arith, c.if-out-length.true, long, ap length c.voices.ensures.value, c.row_bytes.ensures.value) in
    record {
      value = short_answer (sheet_of t) c.args.out.now short;
      after = short_after (sheet_of t) c.args.out.now short;
      again = λ x h H. saves_again g.S.Store.behaviour g.B.Bank.meaning g.met.B.Bank.lawful (model t) (store_in t) x h H;
    }

pub returns : goal.returns
returns g c =
    let t = c.args.table.now in
    let out = c.args.out.now in
    let long : 9 * length c.voices.result.now + c.row_bytes.result + 1 ≡ length (sheet_of c.args.table.now) =
    omega (arith, sheet_length (vec_items c.args.table.now.voices) (rows_in c.args.table.now), ap length c.voices.ensures.value, c.row_bytes.ensures.value) in
    let fits : length (sheet_of c.args.table.now) ≤ length c.args.out.now = omega (arith, long, c.if-out-length.false) in
    let voices = same_text (ap voice_records c.voices-2.ensures.value) c.write_all.ensures in
    let rows = same_text (sym (flat_map-map written_row row_of c.rows.result.now) ∙ ap row_records c.rows.ensures) c.write_all-2.ensures in
    let text = wrote_two (wrote_two voices rows) c.put.ensures in
    let same = text.same ∙ c.new-writer.ensures.same in
    let bytes : c.put.new.self.out.now ≡ written 0 (sheet_of c.args.table.now) c.args.out.now =
    wrote_front c.new-writer.ensures.place c.new-writer.ensures.bytes text in
    record {
      value = saved_answer (sheet_of t) out (9 * length c.voices.result.now + c.row_bytes.result + 1) long fits;
      after = search (rules, same) ∙ saved_after (sheet_of t) out c.put.new.self.out.now bytes fits;
      again = λ x h H. saves_again g.S.Store.behaviour g.B.Bank.meaning g.met.B.Bank.lawful (model t) (store_in t) x h H;
    }
