-- The kind C, hex 43: some literal is true.
use Rattle.std.specs.Prelude.{ℕ, ◌+◌, ◌-◌, Bool, false, cond, not, ◌&&◌, List, [], ◌∷◌, map, length, take, pos, ◌==◌, nat_lt, unsigned_abs}
use Rattle.std.specs.Int.Signed.{non_neg}
use Rattle.sets.specs.Sets.{sift}
use Rattle.std.specs.List.{filter, list_all, list_any}
use Rattle.rows.specs.declared.member.Member.{Member}
use Rattle.kinds.specs.declared.clause.Literal.{Literal}
use Rattle.kinds.specs.declared.clause.Literal.TheVariants.{Is, IsNot}
use Rattle.rows.specs.Rows.{RowData, KindMeaning}
use Rattle.rows.specs.Shared.{cuts, at, shaped, verdict, declared}
use Rattle.rows.specs.declared.trace.Trace.TheVariants.{Settled, Open}

-- the literal holds for the value: below 64 the value is the argument; from 64 on it is not the
-- argument less 64
abbrev pub literal_holds : Member → ℕ → Bool
literal_holds m v =
    cond (nat_lt (unsigned_abs m.argument) 64) (v == unsigned_abs m.argument)
    (not (v == unsigned_abs m.argument - 64))

-- it holds for the placing
abbrev pub holds_at : List ℕ → Member → Bool
holds_at p m = literal_holds m (at p m)

-- false for all values of its set, and true for all
abbrev pub refuted : List ℕ → Member → Bool
refuted s m = sift (literal_holds m) (at s m) == 0

abbrev pub certain : List ℕ → Member → Bool
certain s m = sift (λ v. not (literal_holds m v)) (at s m) == 0

-- true for some value of its set: not refuted
abbrev pub may_hold : List ℕ → Member → Bool
may_hold s m = not (refuted s m)

-- by the literals that are not refuted: none, and the first member's set becomes empty; one, and
-- its set loses the values that make it false
abbrev pub units : List Member → List Member → List ℕ → List ℕ
units [] ms s = cuts (λ _ _. false) (take 1 ms) s
units (m ∷ []) ms s = cuts literal_holds (m ∷ []) s
units (m ∷ (n ∷ rest)) ms s = s

-- an argument from 0 to 127
abbrev pub in_range : Member → Bool
in_range m = non_neg m.argument && nat_lt (unsigned_abs m.argument) 128

abbrev pub clause_rule : RowData → Bool
clause_rule r = list_all in_range r.members

-- a literal's value is one of the 64
abbrev pub has_value : Literal → Bool
has_value (Is voice value) = nat_lt value 64
has_value (IsNot voice value) = nat_lt value 64

-- the member that a literal is written as
abbrev pub literal_member : Literal → Member
literal_member (Is voice value) = record { voice = voice; argument = pos value }
literal_member (IsNot voice value) = record { voice = voice; argument = pos (value + 64) }

-- the row of this kind with these literals
abbrev pub clause_row : List Literal → RowData
clause_row literals = record {
  letter = 0x43;
  body = length literals ∷ [];
  members = map literal_member literals;
}

abbrev pub clause : KindMeaning
clause = record {
  letter = 0x43;
  body_length = 1;
  accepts = λ r n. verdict (shaped 0x43 1 r) (declared n r) (clause_rule r);
  holds = λ r p. list_any (holds_at p) r.members;
  turn = λ r s. units (filter (may_hold s) r.members) r.members s;
  trace = λ r s. cond (list_any (certain s) r.members) Settled (Open 0);
}
