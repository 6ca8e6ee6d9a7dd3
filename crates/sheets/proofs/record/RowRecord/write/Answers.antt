use Rattle.std.proofs.Common.{ℕ, [], ◌∷◌, ap}
use Rattle.rows.specs.WrittenRows.{written_members}
use Rattle.rows.proofs.Texts.{wrote_two, same_text}
use Rattle.sheets.proofs.record.RowRecord.write.Goals as goal

pub returns : goal.returns
returns c =
    let letter = same_text (ap (λ (l : ℕ). l ∷ []) c.letter.ensures) c.put.ensures in
    let body = same_text c.body.ensures c.put-2.ensures in
    let members = same_text (ap written_members c.members.ensures) c.write_all.ensures in
    wrote_two letter (wrote_two body members)
