use Rattle.std.proofs.Common.{ℕ, List, ◌∷◌, ap}
use Rattle.rows.proofs.Texts.{wrote_two, same_text}
use Rattle.sheets.proofs.record.ValueSetRecord.write.Goals as goal

pub returns : goal.returns
returns c = same_text (ap (λ (l : List ℕ). 0x56 ∷ l) c.to_le_bytes.ensures) (wrote_two c.put.ensures c.put-2.ensures)
