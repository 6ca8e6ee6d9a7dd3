-- What is written of a row, and its bytes as the format has them.
use Rattle.std.proofs.Common.{◌≡◌, ℕ, ◌*◌, ◌/◌, ◌%◌, ◌<◌, List, [], ◌∷◌, ◌++◌, length, refl, ap, arith, w16, of_z}
use Rattle.std.proofs.lemmas.List.{length-append}
use Rattle.rows.specs.declared.member.Member.{Member}
use Rattle.rows.specs.Rows.{RowData, Meaning}
use Rattle.rows.specs.Bytes.{member_bytes, encode, MembersFit, LaidOut}
use Rattle.rows.specs.WrittenRows.{written_members, written_row}

byte_is : (v : ℕ) → v < 256 → v % 0x100 ≡ v
byte_is v h = omega arith

-- where each voice fits a byte, they are the same
members_same : (xs : List Member) → MembersFit xs → written_members xs ≡ member_bytes xs
members_same [] f = refl
members_same (x ∷ xs) f =
    λ i. 0x4D ∷ byte_is x.voice f.0 i ∷ of_z w16 x.argument % 0x100 ∷ of_z w16 x.argument / 0x100 ∷ members_same xs f.2 i

pub row_same : (m : Meaning) (r : RowData) → LaidOut m r → written_row r ≡ encode r
row_same m r o = ap (λ (l : List ℕ). r.letter ∷ r.body ++ l) (members_same r.members o.members_fit)

-- and they are always as long
pub members_length : (xs : List Member) → length (written_members xs) ≡ 4 * length xs
members_length [] = refl
members_length (x ∷ xs) = omega (arith, members_length xs)

same_length : (xs : List Member) → length (written_members xs) ≡ length (member_bytes xs)
same_length [] = refl
same_length (x ∷ xs) = omega (arith, same_length xs)

pub row_length : (r : RowData) → length (written_row r) ≡ length (encode r)
row_length r = omega (arith, length-append r.body (written_members r.members), length-append r.body (member_bytes r.members), same_length r.members)
