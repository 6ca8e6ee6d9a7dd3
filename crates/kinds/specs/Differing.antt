-- The kind A, hex 41: all members' values differ.
use Rattle.std.specs.Prelude.{ℕ, Bool, cond, not, ◌&&◌, ◌||◌, List, [], ◌∷◌, map, length, pos, ◌==◌, nat_eq, unsigned_abs}
use Rattle.sets.specs.Sets.{fixed, least, mask}
use Rattle.std.specs.List.{list_all, list_any}
use Rattle.rows.specs.declared.member.Member.{Member}
use Rattle.rows.specs.Rows.{RowData, KindMeaning}
use Rattle.rows.specs.Shared.{cuts, at, distinct, shaped, verdict, declared}
use Rattle.rows.specs.declared.trace.Trace.TheVariants.{Settled, Open}

-- the value w may stay with the member n when m, whose set is s, has its moment: m is not fixed, or
-- n is m, or w is not m's value
abbrev pub may_stay : Member → ℕ → Member → ℕ → Bool
may_stay m s n w = not (fixed s) || (n.voice == m.voice || not (w == least s))

-- each member in order, if its set has one value by then, takes that value out of every other
-- member's set
abbrev pub values_taken : List Member → List Member → List ℕ → List ℕ
values_taken ms [] s = s
values_taken ms (m ∷ rest) s = values_taken ms rest (cuts (may_stay m (at s m)) ms s)

-- the arguments are 0 and no voice repeats
abbrev pub differing_rule : RowData → Bool
differing_rule r =
    list_all (λ m. nat_eq (unsigned_abs m.argument) 0) r.members
    && distinct (map (λ m. m.voice) r.members)

-- all members are fixed, at values that differ
abbrev pub all_placed : List Member → List ℕ → Bool
all_placed ms s = list_all (λ m. fixed (at s m)) ms && distinct (map (λ m. least (at s m)) ms)

-- the values of the fixed members
abbrev pub fixed_values : List Member → List ℕ → ℕ
fixed_values ms s = mask 64 (λ v. list_any (λ m. fixed (at s m) && v == least (at s m)) ms)

-- the row of this kind with these voices
abbrev pub all_different_row : List ℕ → RowData
all_different_row voices = record {
  letter = 0x41;
  body = length voices ∷ [];
  members = map (λ v. record { voice = v; argument = pos 0 }) voices;
}

abbrev pub all_different : KindMeaning
all_different = record {
  letter = 0x41;
  body_length = 1;
  accepts = λ r n. verdict (shaped 0x41 1 r) (declared n r) (differing_rule r);
  holds = λ r p. distinct (map (at p) r.members);
  turn = λ r s. values_taken r.members r.members s;
  trace = λ r s. cond (all_placed r.members s) Settled (Open (fixed_values r.members s));
}
