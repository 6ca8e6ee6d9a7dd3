-- The laws that every bank keeps. Code above a bank rests on them and on nothing else of its kinds.
use Rattle.std.specs.Prelude.{◌≡◌, ℕ, ◌+◌, ◌≤◌, Bool, true, false, ◌||◌, List, ◌++◌, length, Ok, ◌==◌, slice_index}
use Rattle.sets.specs.Sets.{fixed}
use Rattle.sets.specs.Placings.{changed, some_empty, all_fixed, values, Proper, Placing, Within, Narrower}
use Rattle.rows.specs.Rows.{RowData, KindMeaning, Meaning, alone, count}
use Rattle.rows.specs.declared.limits.TheConstants.{MOST_MEMBERS, LONGEST_BODY}

-- a letter that no kind may have: a sheet's V and Z, and a member's M
abbrev pub barred : ℕ → Bool
barred l = l == 0x56 || (l == 0x5A || l == 0x4D)

-- a letter of a bank, with its body length
pub record Lettered (m : Meaning) (l : ℕ) : Type 0 where
  pub free : barred l ≡ false
  pub some_body : 1 ≤ m.body_length l
  pub short_body : m.body_length l ≤ LONGEST_BODY

-- the shape of a row: a letter that the bank knows, its body length, a count from 1 to 32 and that
-- many members
pub record Shaped (m : Meaning) (r : RowData) : Type 0 where
  pub known_letter : m.known r.letter ≡ true
  pub long_body : length r.body ≡ m.body_length r.letter
  pub counted : length r.members ≡ count r
  pub some_members : 1 ≤ count r
  pub few_members : count r ≤ MOST_MEMBERS

-- it is a row by its shape, and the bank accepts it with n voices; what a bank returns for data of
-- another shape is left to it
pub record Accepted (m : Meaning) (r : RowData) (n : ℕ) : Type 0 where
  pub shape : Shaped m r
  pub yes : m.accepts r n ≡ Ok tt

-- the kind accepts the row in a table of as many voices as there are sets
abbrev pub AcceptedFor : KindMeaning → RowData → List ℕ → Type 0
AcceptedFor k r s = Accepted (alone k) r (length s)

-- After a turn on an accepted row, where no set was empty, the result says whether a value was
-- taken out.
abbrev pub ChangeReported : Meaning → RowData → (before after : List ℕ) → Bool → Type 0
ChangeReported m r before after changes =
    Accepted m r (length before) → Proper before → changes ≡ changed after before

-- two lists of sets with the same fixed voices, at values that may differ, and equal sets elsewhere
pub record Alike (s t : List ℕ) : Type 0 where
  pub long : length s ≡ length t
  pub same_fixed : (i : ℕ) → fixed (slice_index s i) ≡ fixed (slice_index t i)
  pub same_open : (i : ℕ) → fixed (slice_index s i) ≡ false → slice_index s i ≡ slice_index t i

-- two placings that agree at the voices that s leaves open
abbrev pub Agree : (s p q : List ℕ) → Type 0
Agree s p q = (i : ℕ) → fixed (slice_index s i) ≡ false → slice_index p i ≡ slice_index q i

-- That acceptance depends only on the row and the number of voices, holding on the row and the
-- placing, turn and trace on the row and the sets, is said by the types in Meaning.
pub record Laws (m : Meaning) : Type 0 where
  -- no letter is barred, and a body has 1 to 16 bytes
  pub lettered : (l : ℕ) → m.known l ≡ true → Lettered m l
  -- a turn only takes values out
  pub narrows : (r : RowData) (s : List ℕ) → Accepted m r (length s) → Proper s
      → Narrower (m.turn r s) s
  -- and none that a placing uses for which the row holds
  pub sound : (r : RowData) (s p : List ℕ) → Accepted m r (length s) → Proper s → Within p s
      → m.holds r p ≡ true → Within p (m.turn r s)
  -- where all voices are fixed and the row does not hold, a turn leaves some set empty
  pub checks : (r : RowData) (s : List ℕ) → Accepted m r (length s) → Proper s → all_fixed s ≡ true
      → m.holds r (values s) ≡ false → some_empty (m.turn r s) ≡ true
  -- what a trace keeps is all that matters to the fillings of the open voices
  pub projects : (r : RowData) (s t p q : List ℕ) → Accepted m r (length s) → Proper s → Proper t
      → Alike s t → m.trace r s ≡ m.trace r t
      → Within p s → Within q t → Agree s p q → m.holds r p ≡ m.holds r q
  -- an accepted row stays acceptable with more voices, and those never matter to it
  pub stays : (r : RowData) (n k : ℕ) → Accepted m r n → Accepted m r (n + k)
  pub holds_more : (r : RowData) (p q : List ℕ) → Accepted m r (length p) → Placing (p ++ q)
      → m.holds r (p ++ q) ≡ m.holds r p
  pub turn_more : (r : RowData) (s t : List ℕ) → Accepted m r (length s) → Proper (s ++ t)
      → m.turn r (s ++ t) ≡ m.turn r s ++ t
  pub trace_more : (r : RowData) (s t : List ℕ) → Accepted m r (length s) → Proper (s ++ t)
      → m.trace r (s ++ t) ≡ m.trace r s
