-- A row as bytes: its letter; its body, whose first byte is the number of members; and for each
-- member hex 4D, its voice, and its argument, a signed number of 16 bits, low byte first.
use Rattle.std.specs.Prelude.{◌≡◌, ℕ, suc, ◌+◌, ◌*◌, ◌/◌, ◌%◌, ◌<◌, Bool, true, ◌&&◌, List, [], ◌∷◌, ◌++◌, length, take, drop, FitsSigned, ◌==◌, nat_lt, slice_index}
use Rattle.std.specs.Int.{w16}
use Rattle.std.proofs.Common.{to_z, of_z}
use Rattle.rows.specs.declared.member.Member.{Member}
use Rattle.rows.specs.Rows.{RowData, Meaning, allowed_count}
use Rattle.rows.specs.Laws.{Shaped}

-- every number of the list is a byte
abbrev pub Bytes : List ℕ → Type 0
Bytes bs = (i : ℕ) → i < length bs → slice_index bs i < 256

-- ---- what bytes have to be

-- the letter, the first byte
abbrev pub letter_byte : List ℕ → ℕ
letter_byte bs = slice_index bs 0

-- the number of members, the byte after the letter
abbrev pub count_byte : List ℕ → ℕ
count_byte bs = slice_index bs 1

-- where the members begin: after the letter and the body
abbrev pub head_length : Meaning → List ℕ → ℕ
head_length m bs = suc (m.body_length (letter_byte bs))

-- the letter is there, and is one of the bank's
abbrev pub lettered : Meaning → List ℕ → Bool
lettered m bs = nat_lt 0 (length bs) && m.known (letter_byte bs)

-- the count is there, and is 1 to 32
abbrev pub counted : List ℕ → Bool
counted bs = nat_lt 1 (length bs) && allowed_count (count_byte bs)

-- the bytes are as many as the letter and the count ask for
abbrev pub right_length : Meaning → List ℕ → Bool
right_length m bs = length bs == head_length m bs + 4 * count_byte bs

-- each member, of four bytes, begins with hex 4D
abbrev pub marked : List ℕ → Bool
marked [] = true
marked (a ∷ []) = true
marked (a ∷ v ∷ []) = true
marked (a ∷ v ∷ low ∷ []) = true
marked (a ∷ v ∷ low ∷ high ∷ bs) = a == 0x4D && marked bs

-- bytes that are a row of the bank's layout
pub record Layout (m : Meaning) (bs : List ℕ) : Type 0 where
  pub letters : lettered m bs ≡ true
  pub counts : counted bs ≡ true
  pub long : right_length m bs ≡ true
  pub marks : marked (drop (head_length m bs) bs) ≡ true

-- ---- reading

-- the members that these bytes stand for, four bytes each
abbrev pub members_in : List ℕ → List Member
members_in [] = []
members_in (a ∷ []) = []
members_in (a ∷ v ∷ []) = []
members_in (a ∷ v ∷ low ∷ []) = []
members_in (a ∷ v ∷ low ∷ high ∷ bs) =
    record { voice = v; argument = to_z w16 (low + 0x100 * high) } ∷ members_in bs

-- the row that the bytes stand for
abbrev pub decode : Meaning → List ℕ → RowData
decode m bs = record {
  letter = letter_byte bs;
  body = take (m.body_length (letter_byte bs)) (drop 1 bs);
  members = members_in (drop (head_length m bs) bs);
}

-- ---- writing

-- the bytes of these members
abbrev pub member_bytes : List Member → List ℕ
member_bytes [] = []
member_bytes (x ∷ xs) =
    0x4D ∷ x.voice ∷ of_z w16 x.argument % 0x100 ∷ of_z w16 x.argument / 0x100 ∷ member_bytes xs

-- the bytes of a row
abbrev pub encode : RowData → List ℕ
encode r = r.letter ∷ r.body ++ member_bytes r.members

-- how many bytes the rows have, all together
abbrev pub total_bytes : List RowData → ℕ
total_bytes [] = 0
total_bytes (r ∷ rows) = length (encode r) + total_bytes rows

-- ---- the two ways

-- each voice fits a byte, and each argument a signed number of 16 bits
abbrev pub MembersFit : List Member → Type 0
MembersFit [] = Unit {0}
MembersFit (x ∷ xs) = (x.voice < 256) × FitsSigned w16 x.argument × MembersFit xs

-- a row of the shape that its letter requires, whose numbers fit their bytes
pub record LaidOut (m : Meaning) (r : RowData) : Type 0 where
  pub shape : Shaped m r
  pub letter_fits : r.letter < 256
  pub body_fits : Bytes r.body
  pub members_fit : MembersFit r.members

-- Such rows and the bytes of the layout stand for each other.
abbrev pub BytesBothWays : Type 0
BytesBothWays = (m : Meaning)
    → ((r : RowData) → LaidOut m r → Bytes (encode r) × Layout m (encode r) × (decode m (encode r) ≡ r))
    × ((bs : List ℕ) → Bytes bs → Layout m bs → LaidOut m (decode m bs) × (encode (decode m bs) ≡ bs))
