-- What the operations on sets say of membership.
use Rattle.std.specs.Prelude.{◌≡◌, ℕ, suc, ◌-◌, ◌^◌, ◌<◌, ◌≤◌, Bool, true, false, not, ◌&&◌, ◌≢◌, ◌==◌, count_ones, nat_lt}
use Rattle.sets.specs.Sets.{has, fixed, least, greatest, only, mask, sift}

-- sets that a word of 64 bits holds
abbrev pub Word : ℕ → Type 0
Word s = s < 2 ^ 64

-- each member of t is one of s
abbrev pub Part : ℕ → ℕ → Type 0
Part t s = (v : ℕ) → has t v ≡ true → has s v ≡ true

pub record SetLaws : Type 0 where
  -- the same members, the same set
  pub same_members : (s t : ℕ) → Word s → Word t → ((v : ℕ) → v < 64 → has s v ≡ has t v) → s ≡ t
  -- members are below 64, and there are at most 64
  pub members_below : (s v : ℕ) → Word s → has s v ≡ true → v < 64
  pub at_most : (s : ℕ) → Word s → count_ones s ≤ 64
  -- no member: the empty set
  pub no_member : (s : ℕ) → Word s → ((v : ℕ) → has s v ≡ false) → s ≡ 0
  -- the least value is a member and no member is below it; the greatest likewise
  pub least_member : (s : ℕ) → Word s → 0 < s → has s (least s) ≡ true
  pub least_first : (s v : ℕ) → Word s → has s v ≡ true → least s ≤ v
  pub greatest_member : (s : ℕ) → Word s → 0 < s → has s (greatest s) ≡ true
  pub greatest_last : (s v : ℕ) → Word s → has s v ≡ true → v ≤ greatest s
  -- exactly one member: fixed, and the member is the least
  pub one_fixed : (s v : ℕ) → Word s → has s v ≡ true → ((w : ℕ) → has s w ≡ true → w ≡ v)
      → fixed s ≡ true
  pub fixed_least : (s v : ℕ) → Word s → fixed s ≡ true → has s v ≡ true → v ≡ least s
  pub only_member : (v w : ℕ) → has (only v) w ≡ (w == v)
  -- taking the least out leaves the members above it
  pub above_least : (s w : ℕ) → Word s → 0 < s
      → has (s - only (least s)) w ≡ (has s w && nat_lt (least s) w)
  -- fewer members after a removal
  pub one_fewer : (s v : ℕ) → Word s → has s v ≡ true
      → count_ones s ≡ suc (count_ones (sift (λ w. not (w == v)) s))
  pub part_fewer : (t s : ℕ) → Word t → Word s → Part t s → t ≢ s → count_ones t < count_ones s
  -- the members of the set of what passes
  pub mask_members : (f : ℕ → Bool) (v : ℕ) → v < 64 → has (mask 64 f) v ≡ f v
  pub sift_members : (f : ℕ → Bool) (s v : ℕ) → v < 64 → has (sift f s) v ≡ (has s v && f v)
