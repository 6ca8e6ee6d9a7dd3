use Rattle.std.proofs.Common.{◌≡◌, ◌∷◌, ◌++◌, take}
use Rattle.rows.specs.WrittenRows.{written_members}
use Rattle.rows.proofs.row.Row.to_bytes.Given as goal

abbrev pub invariant-loop-member : goal.invariant-loop-member
invariant-loop-member l = l.bytes.items ≡ l.self.letter ∷ l.self.body.items ++ written_members (take l.member-index l.member-items)
