-- Rows written as bytes, with one byte for each voice, whatever the voice: the low one. Of a row
-- that was read from bytes it is the voice.
use Rattle.std.specs.Prelude.{◌≡◌, ℕ, ◌/◌, ◌%◌, List, [], ◌∷◌, ◌++◌, flat_map}
use Rattle.std.specs.Int.{w16}
use Rattle.std.proofs.Common.{of_z}
use Rattle.rows.specs.declared.member.Member.{Member}
use Rattle.rows.specs.Rows.{RowData, Meaning}
use Rattle.rows.specs.Bytes.{encode, LaidOut}

-- the bytes of a member, and of these members
abbrev pub written_member : Member → List ℕ
written_member x =
    0x4D ∷ x.voice % 0x100 ∷ of_z w16 x.argument % 0x100 ∷ of_z w16 x.argument / 0x100 ∷ []

abbrev pub written_members : List Member → List ℕ
written_members xs = flat_map written_member xs

-- the bytes of a row
abbrev pub written_row : RowData → List ℕ
written_row r = r.letter ∷ r.body ++ written_members r.members

-- wherever the voices fit a byte, these are the format's own bytes of the row
abbrev pub WrittenEncoded : Type 0
WrittenEncoded = (m : Meaning) (r : RowData) → LaidOut m r → written_row r ≡ encode r
