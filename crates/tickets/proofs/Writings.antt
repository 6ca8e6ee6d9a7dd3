-- Bytes written one part after the other.
use Rattle.std.proofs.Common.{◌≡◌, ℕ, ◌+◌, ◌≤◌, List, [], ◌∷◌, ◌++◌, length, take, drop, ap, ◌∙◌, arith}
use Rattle.std.proofs.lemmas.Grind.{flat_map-append}
use Rattle.std.proofs.lemmas.List.{take_at}
use Rattle.rows.specs.declared.member.Member.{Member}
use Rattle.rows.specs.Written.{written}
use Rattle.rows.specs.WrittenRows.{written_member, written_members}
use Rattle.rows.proofs.Places.{written_on, written_front}

-- one part, and then another just after it
pub written_more : (mem xs ys : List ℕ) (p q : ℕ) → q ≡ p + length xs → written q ys (written p xs mem) ≡ written p (xs ++ ys) mem
written_more mem xs ys p q e = ap (λ (n : ℕ). written n ys (written p xs mem)) e ∙ written_on p xs ys mem

-- what is written at the front is read there again
pub read_front : (mem bytes : List ℕ) (n : ℕ) → length bytes ≡ n → n ≤ length mem → take n (written 0 bytes mem) ≡ bytes
read_front mem bytes n e h = ap (take n) (written_front bytes mem (omega arith)) ∙ take_at bytes (drop (length bytes) mem) n e

-- ---- members

pub members_push : (xs : List Member) (x : Member) → written_members (xs ++ (x ∷ [])) ≡ written_members xs ++ written_member x
members_push xs x = flat_map-append written_member xs (x ∷ [])
