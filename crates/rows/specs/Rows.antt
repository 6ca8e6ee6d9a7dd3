-- What rows say, and what a kind of rows and a bank of kinds mean.
use Rattle.std.specs.Prelude.{ℕ, Bool, cond, ◌&&◌, ◌||◌, List, Option, Some, None, Result, ◌==◌, nat_le, slice_index}
use Rattle.rows.specs.declared.refusal.KindRefusal.{KindRefusal}
use Rattle.rows.specs.declared.member.Member.{Member}
use Rattle.rows.specs.declared.trace.Trace.{Trace}
use Rattle.rows.specs.declared.limits.TheConstants.{MOST_MEMBERS}

-- what a row says: its letter, its body and its members
pub record RowData : Type 0 where
  pub letter : ℕ
  pub body : List ℕ
  pub members : List Member

-- byte i of the body; the first is the count of members
abbrev pub byte : RowData → ℕ → ℕ
byte r i = slice_index r.body i

abbrev pub count : RowData → ℕ
count r = byte r 0

-- a row has 1 to 32 members
abbrev pub allowed_count : ℕ → Bool
allowed_count n = nat_le 1 n && nat_le n MOST_MEMBERS

-- whether a row is accepted, or why it is refused
abbrev pub Verdict : Type 0
Verdict = Result Unit KindRefusal

-- What a kind of rows means: its letter, its body length, the rows that it accepts with so many
-- voices, the placings that a row holds for, the sets after a turn (propagator), the trace.
pub record KindMeaning : Type 0 where
  pub letter : ℕ
  pub body_length : ℕ
  pub accepts : RowData → ℕ → Verdict
  pub holds : RowData → List ℕ → Bool
  pub turn : RowData → List ℕ → List ℕ
  pub trace : RowData → List ℕ → Trace

-- What a bank means: the letters that it knows, their body lengths, and of their rows what a kind
-- says of its own.
pub record Meaning : Type 0 where
  pub known : ℕ → Bool
  pub body_length : ℕ → ℕ
  pub accepts : RowData → ℕ → Verdict
  pub holds : RowData → List ℕ → Bool
  pub turn : RowData → List ℕ → List ℕ
  pub trace : RowData → List ℕ → Trace

-- the body length of the rows with this letter, where the bank knows it
abbrev pub known_body_length : Meaning → ℕ → Option ℕ
known_body_length m l = cond (m.known l) (Some (m.body_length l)) None

-- a bank of one kind
abbrev pub alone : KindMeaning → Meaning
alone k = record {
  known = λ l. (l == k.letter);
  body_length = λ _. k.body_length;
  accepts = k.accepts;
  holds = k.holds;
  turn = k.turn;
  trace = k.trace;
}

-- two banks side by side: a row goes to the first that knows its letter
abbrev pub with_letter : Meaning → Meaning → ℕ → Meaning
with_letter a b l = cond (a.known l) a b

abbrev pub beside : Meaning → Meaning → Meaning
beside a b = record {
  known = λ l. a.known l || b.known l;
  body_length = λ l. (with_letter a b l).body_length l;
  accepts = λ r n. (with_letter a b r.letter).accepts r n;
  holds = λ r p. (with_letter a b r.letter).holds r p;
  turn = λ r s. (with_letter a b r.letter).turn r s;
  trace = λ r s. (with_letter a b r.letter).trace r s;
}
