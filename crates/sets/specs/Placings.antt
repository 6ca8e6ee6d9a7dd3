-- Lists of sets, one for each voice (variable), and placings (valuations), which give each voice a
-- value.
use Rattle.std.specs.Prelude.{◌≡◌, ℕ, ◌^◌, ◌<◌, Bool, true, not, List, map, length, nat_eq, bytes_eq, slice_index, slice_index_or}
use Rattle.std.specs.List.{list_all, list_any}
use Rattle.sets.specs.Sets.{has, fixed, least}

-- two lists of numbers are the same
abbrev pub same : List ℕ → List ℕ → Bool
same = bytes_eq

-- the first list is not the second
abbrev pub changed : List ℕ → List ℕ → Bool
changed xs ys = not (same xs ys)

-- some set has no value
abbrev pub some_empty : List ℕ → Bool
some_empty sets = list_any (λ s. nat_eq s 0) sets

-- every voice is fixed
abbrev pub all_fixed : List ℕ → Bool
all_fixed sets = list_all fixed sets

-- the values of fixed sets
abbrev pub values : List ℕ → List ℕ
values sets = map least sets

-- the lists of sets that a table has: each below 2 ^ 64 and none empty
abbrev pub Proper : List ℕ → Type 0
Proper sets = (i : ℕ) → i < length sets → (0 < slice_index sets i) × (slice_index sets i < 2 ^ 64)

-- the placings that a table has: each value below 64
abbrev pub Placing : List ℕ → Type 0
Placing p = (i : ℕ) → i < length p → slice_index p i < 64

-- a placing takes from each set one of its values
pub record Within (p sets : List ℕ) : Type 0 where
  pub long : length p ≡ length sets
  pub each : (i : ℕ) → i < length sets → has (slice_index sets i) (slice_index p i) ≡ true

-- of two placings the first has the smaller value at the first voice where they differ
pub record Lesser (p q : List ℕ) : Type 0 where
  pub at : ℕ
  pub inside : at < length p
  pub before : (k : ℕ) → k < at → slice_index p k ≡ slice_index q k
  pub less : slice_index_or p at 0 < slice_index q at

-- each set of the first list is a part of the second's
pub record Narrower (t s : List ℕ) : Type 0 where
  pub long : length t ≡ length s
  pub each : (i v : ℕ) → has (slice_index t i) v ≡ true → has (slice_index s i) v ≡ true
