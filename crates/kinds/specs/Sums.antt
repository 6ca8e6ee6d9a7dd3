-- The kind L, hex 4C: the sum of coefficient × value is at most a bound.
use Rattle.std.specs.Prelude.{ℕ, ◌+◌, ◌*◌, Bool, cond, ◌&&◌, leb, List, [], ◌∷◌, map, length, ℤ, pos, ◌+ℤ◌, ◌-ℤ◌, ◌*ℤ◌, neg_ℤ, ◌≤ℤ◌, int_le, nat_le, unsigned_abs}
use Rattle.std.specs.Int.Signed.{non_neg}
use Rattle.std.specs.Int.{w32, to_le_bytes, cast_unsigned}
use Rattle.std.proofs.Common.{to_z}
use Rattle.sets.specs.Sets.{fixed, least, greatest}
use Rattle.std.specs.List.{list_all}
use Rattle.rows.specs.declared.member.Member.{Member}
use Rattle.rows.specs.Rows.{RowData, KindMeaning, byte}
use Rattle.rows.specs.Shared.{cuts, at, shaped, verdict, declared}
use Rattle.rows.specs.declared.trace.Trace.TheVariants.{Settled, Open}

-- the bound: four bytes after the count, low byte first, signed
abbrev pub bound : RowData → ℤ
bound r = to_z w32 (byte r 1 + 0x100 * byte r 2 + 0x10000 * byte r 3 + 0x1000000 * byte r 4)

-- the sum of what each member adds
abbrev pub total : (Member → ℤ) → List Member → ℤ
total f [] = pos 0
total f (m ∷ ms) = f m +ℤ total f ms

-- coefficient × value
abbrev pub term : Member → ℕ → ℤ
term m v = m.argument *ℤ pos v

-- the least and the greatest that the member's coefficient makes of a value in its set
abbrev pub low : List ℕ → Member → ℤ
low s m = cond (non_neg m.argument) (term m (least (at s m))) (term m (greatest (at s m)))

abbrev pub high : List ℕ → Member → ℤ
high s m = cond (non_neg m.argument) (term m (greatest (at s m))) (term m (least (at s m)))

-- coefficient × value of a member that is fixed, 0 of one that is not
abbrev pub placed : List ℕ → Member → ℤ
placed s m = cond (fixed (at s m)) (term m (least (at s m))) (pos 0)

-- with v for this member and the least for the others the sum is within the bound
abbrev pub within : RowData → List ℕ → Member → ℕ → Bool
within r s m v = int_le (term m v +ℤ (total (low s) r.members -ℤ low s m)) (bound r)

-- even the greatest sum is within the bound
abbrev pub always_within : RowData → List ℕ → Bool
always_within r s = int_le (total (high s) r.members) (bound r)

-- what the fixed members add up to, and 4,000,000 more: so large that no accepted row has less
-- than 0
abbrev pub linear_content : RowData → List ℕ → ℕ
linear_content r s = unsigned_abs (total (placed s) r.members +ℤ pos 4000000)

-- the bound from -3,000,000 to 3,000,000, the coefficients from -1,000 to 1,000
abbrev pub linear_rule : RowData → Bool
linear_rule r =
    nat_le (unsigned_abs (bound r)) 3000000
    && list_all (λ m. leb (unsigned_abs m.argument) 1000) r.members

-- z lies from -n to n: so the code's sums fit
pub record Near (n : ℕ) (z : ℤ) : Type 0 where
  pub above : z ≤ℤ pos n
  pub below : neg_ℤ (pos n) ≤ℤ z

-- the row of this kind with this bound and these terms, each a voice and its coefficient
abbrev pub linear_row : ℤ → List (ℕ × ℤ) → RowData
linear_row bound terms = record {
  letter = 0x4C;
  body = length terms ∷ to_le_bytes w32 (cast_unsigned w32 bound);
  members = map (λ t. record { voice = t.0; argument = t.1 }) terms;
}

abbrev pub linear : KindMeaning
linear = record {
  letter = 0x4C;
  body_length = 5;
  accepts = λ r n. verdict (shaped 0x4C 5 r) (declared n r) (linear_rule r);
  holds = λ r p. int_le (total (λ m. term m (at p m)) r.members) (bound r);
  turn = λ r s. cuts (within r s) r.members s;
  trace = λ r s. cond (always_within r s) Settled (Open (linear_content r s));
}
