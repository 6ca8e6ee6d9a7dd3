-- A set of values 0 to 63 (a variable's domain) is a number of 64 bits: bit v is set where the
-- value v is in the set.
use Rattle.std.specs.Prelude.{ℕ, zero, suc, ◌+◌, ◌-◌, ◌*◌, ◌^◌, Bool, cond, ◌&&◌, ◌==◌, nat_eq, count_ones}
use Rattle.std.specs.Int.{bit_at}
use Rattle.std.specs.Int.Count.{count_trailing_zeros, count_leading_zeros}

-- the value v is in the set s
abbrev pub has : ℕ → ℕ → Bool
has s v = bit_at s v == 1

-- exactly one value
abbrev pub fixed : ℕ → Bool
fixed s = count_ones s == 1

-- the least value of a set that is not empty; 64 where it is
abbrev pub least : ℕ → ℕ
least s = count_trailing_zeros 64 s

-- the greatest value of a set that is not empty; 0 where it is
abbrev pub greatest : ℕ → ℕ
greatest s = 63 - count_leading_zeros 64 s

-- the set of the value v alone
abbrev pub only : ℕ → ℕ
only v = 2 ^ v

-- the set without its least value; an empty set stays empty
abbrev pub without_least : ℕ → ℕ
without_least s = cond (nat_eq s 0) 0 (s - only (least s))

-- the set of the values below k that pass the test f
unfoldable pub mask : ℕ → (ℕ → Bool) → ℕ
mask zero f = zero
mask (suc k) f = cond (f zero) 1 0 + 2 * mask k (λ v. f (suc v))

-- the values of the set s that pass the test f
unfoldable pub sift : (ℕ → Bool) → ℕ → ℕ
unfolding mask
sift f s = mask 64 (λ v. has s v && f v)
