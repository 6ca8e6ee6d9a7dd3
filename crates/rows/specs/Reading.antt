-- Reading a row from bytes: what is returned, and the row afterwards.
use Rattle.std.specs.Prelude.{ℕ, Bool, cond, List, ◌++◌, take, drop, is_ok, Ok, Err, Result}
use Rattle.rows.specs.declared.refusal.RowRefusal.{RowRefusal}
use Rattle.rows.specs.declared.refusal.RowRefusal.TheVariants.{UnknownLetter, BadCount, WrongLength, UnmarkedMember, ByKind}
use Rattle.rows.specs.Rows.{RowData, Meaning, Verdict}
use Rattle.rows.specs.Bytes.{head_length, lettered, counted, right_length, marked, decode, members_in}
use Rattle.rows.specs.declared.limits.TheConstants.{MOST_MEMBERS, LONGEST_BODY}

-- what comes next where the test holds, the refusal where it does not
abbrev pub checked : {A E : Type 0} → Bool → E → Result A E → Result A E
checked test refusal next = cond test next (Err refusal)

-- the first fault of the layout, and what comes next where there is none
abbrev pub layout : {A : Type 0} → Meaning → List ℕ → Result A RowRefusal → Result A RowRefusal
layout m bs next =
    checked (lettered m bs) UnknownLetter
    (checked (counted bs) BadCount
    (checked (right_length m bs) WrongLength
    (checked (marked (drop (head_length m bs) bs)) UnmarkedMember next)))

-- what is wrong with the layout of the bytes, if anything is
abbrev pub layout_fault : Meaning → List ℕ → Result Unit RowRefusal
layout_fault m bs = layout m bs (Ok tt)

-- a kind's verdict as that on bytes
abbrev pub of_kind : Verdict → Result Unit RowRefusal
of_kind (Ok x) = Ok x
of_kind (Err refusal) = Err (ByKind refusal)

-- the verdict on bytes with so many voices: the first fault of their layout, then the verdict of
-- the kind on the row that they stand for
abbrev pub row_verdict : Meaning → List ℕ → ℕ → Result Unit RowRefusal
row_verdict m bs voices = layout m bs (of_kind (m.accepts (decode m bs) voices))

-- the row after bytes were read into it: what they stand for where their layout is right, else what
-- it was
abbrev pub row_after : Meaning → List ℕ → RowData → RowData
row_after m bs before = cond (is_ok (layout_fault m bs)) (decode m bs) before

-- ---- the steps of reading

-- a row with these bytes after its body, as far as a body goes
abbrev pub with_bytes : RowData → List ℕ → RowData
with_bytes r bs =
    record { letter = r.letter; body = take LONGEST_BODY (r.body ++ bs); members = r.members }

-- a row with the members in these bytes after its own, as many as a row can have
abbrev pub with_members_in : RowData → List ℕ → RowData
with_members_in r bs = record {
  letter = r.letter;
  body = r.body;
  members = take MOST_MEMBERS (r.members ++ members_in bs);
}
