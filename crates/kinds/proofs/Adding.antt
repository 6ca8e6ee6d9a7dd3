-- Sums of signed products that stay near 0.
use Rattle.std.proofs.Common.{◌≡◌, ℕ, suc, ◌+◌, ◌*◌, ◌^◌, ◌<◌, ◌≤◌, true, false, cond, List, [], ◌∷◌, ◌++◌, length, get_or, take, ℤ, pos, negsuc, ◌+ℤ◌, ◌*ℤ◌, neg_ℤ, sym, ap, ◌∙◌, ap₂, le_refl, arith, lit<, take_all, w16, w32, w64, SFits, to_z, of_z}
use Rattle.std.proofs.lemmas.Nat.{mul-le}
use Rattle.std.proofs.lemmas.List.{take_more}
use Rattle.std.proofs.lemmas.Int.{ints, to_z-of_z}
use Rattle.rows.specs.declared.row.Row.{Row}
use Rattle.rows.specs.Views.{row_of}
use Rattle.rows.specs.declared.member.Member.{Member}
use Rattle.sets.specs.Sets.{fixed, least}
use Rattle.rows.specs.Shared.{at}
use Rattle.kinds.specs.Sums.{term, high, placed, total, Near}
use Rattle.kinds.specs.SumsLaws.{fixed_high}
use Rattle.std.proofs.Math.IntN.{+ℤ_idr}

-- a row has at most 32 members
pub few_members : (r : Row) → length (row_of r).members ≤ 32
few_members r = omega (arith, r.few, r.members.ok.0)

-- ---- numbers near 0

near_neg : (n m : ℕ) → m ≤ n → Near n (neg_ℤ (pos m))
near_neg n m h = record { above = omega (arith, ints); below = omega (arith, ints) }

near_pos : (n m : ℕ) → m ≤ n → Near n (pos m)
near_pos n m h = record { above = omega (arith, ints); below = omega (arith, ints) }

-- an i16 times a number
pub near_product : (a : ℤ) (v : ℕ) → SFits w16 a → Near (32768 * v) (a *ℤ pos v)
near_product (pos n) v f = let k : n ≤ 32768 = omega (arith, f.sfits) in near_pos (32768 * v) (n * v) (mul-le n v 32768 v k (le_refl v))
near_product (negsuc n) v f = let k : suc n ≤ 32768 = omega (arith, f.sfits) in near_neg (32768 * v) (suc n * v) (mul-le (suc n) v 32768 v k (le_refl v))

pub near_fits : (n : ℕ) (z : ℤ) → n < 2 ^ 63 → Near n z → SFits w64 z
near_fits n (pos m) k h = record { sfits = omega (arith, ints, h.above) }
near_fits n (negsuc m) k h = record { sfits = omega (arith, ints, h.below) }

half_fits : (n : ℕ) (z : ℤ) → n < 2 ^ 31 → Near n z → SFits w32 z
half_fits n (pos m) k h = record { sfits = omega (arith, ints, h.above) }
half_fits n (negsuc m) k h = record { sfits = omega (arith, ints, h.below) }

pub near_wider : (n k : ℕ) (z : ℤ) → n ≤ k → Near n z → Near k z
near_wider n k z l h = record { above = omega (arith, ints, h.above); below = omega (arith, ints, h.below) }

pub near_add : (n k : ℕ) (a b : ℤ) → Near n a → Near k b → Near (n + k) (a +ℤ b)
near_add n k a b h j = record { above = omega (arith, ints, h.above, j.above); below = omega (arith, ints, h.below, j.below) }

-- ---- a member that is fixed

-- what it adds where it is fixed is its greatest, and 0 where it is not
pub placed_fixed : (s : List ℕ) (m : Member) → at s m < 2 ^ 64 → fixed (at s m) ≡ true → high s m ≡ placed s m
placed_fixed s m h f = fixed_high s m h f ∙ ap (λ b. cond b (term m (least (at s m))) (pos 0)) (sym f)

pub placed_open : (s : List ℕ) (m : Member) → fixed (at s m) ≡ false → placed s m ≡ pos 0
placed_open s m f = ap (λ b. cond b (term m (least (at s m))) (pos 0)) f

-- ---- sums, one member on

total_push : (f : Member → ℤ) (ms : List Member) (m : Member) → total f (ms ++ (m ∷ [])) ≡ (total f ms +ℤ f m)
total_push f [] m = omega (arith, ints)
total_push f (n ∷ ms) m = ap (λ z. f n +ℤ z) (total_push f ms m) ∙ omega (arith, ints)

pub total_more : (f : Member → ℤ) (ms : List Member) (i : ℕ) (d : Member) → i < length ms → total f (take (i + 1) ms) ≡ (total f (take i ms) +ℤ f (get_or ms i d))
total_more f ms i d h = ap (total f) (take_more ms i d h) ∙ total_push f (take i ms) (get_or ms i d)

-- a loop that adds what each of at most 32 members adds: after i members
abbrev pub Summed : (Member → ℤ) → List Member → ℕ → ℤ → Type 0
Summed f ms i z = (z ≡ total f (take i ms)) × Near (2097152 * i) z

-- and the code's number is that number
pub back : (n : ℕ) (z : ℤ) → n < 2 ^ 63 → Near n z → to_z w64 (of_z w64 z) ≡ z
back n z h k = to_z-of_z w64 z (near_fits n z h k)

-- also in half the bits
pub half : (n : ℕ) (z : ℤ) → n < 2 ^ 31 → Near n z → to_z w32 (of_z w32 z) ≡ z
half n z h k = to_z-of_z w32 z (half_fits n z h k)

pub back_half : (n : ℕ) (z : ℤ) → n < 2 ^ 31 → Near n z → to_z w32 (of_z w32 (to_z w64 (of_z w64 z))) ≡ z
back_half n z h k = ap (λ x. to_z w32 (of_z w32 x)) (back n z (omega arith) k) ∙ half n z h k

pub summed_fits : (i : ℕ) (z x : ℤ) → i < 32 → Near (2097152 * i) z → Near 2097152 x → SFits w64 (z +ℤ to_z w64 (of_z w64 x))
summed_fits i z x l h k =
    rw (back 2097152 x (lit< tt) k) (near_fits (2097152 * i + 2097152) (z +ℤ x) (omega arith) (near_add (2097152 * i) 2097152 z x h k))

pub summed_more : (f : Member → ℤ) (ms : List Member) (i : ℕ) (d : Member) (z x : ℤ) → i < length ms → length ms ≤ 32 → Summed f ms i z → x ≡ f (get_or ms i d) → Near 2097152 x
    → Summed f ms (i + 1) (to_z w64 (of_z w64 (z +ℤ to_z w64 (of_z w64 x))))
summed_more f ms i d z x l few h e k =
    let s = to_z-of_z w64 (z +ℤ to_z w64 (of_z w64 x)) (summed_fits i z x (omega arith) h.1 k) ∙ ap (λ y. z +ℤ y) (back 2097152 x (lit< tt) k) in (
      s ∙ ap₂ ◌+ℤ◌ h.0 e ∙ sym (total_more f ms i d l),
      rw s (near_wider (2097152 * i + 2097152) (2097152 * (i + 1)) (z +ℤ x) (omega arith) (near_add (2097152 * i) 2097152 z x h.1 k)),
    )

-- a member that adds nothing is passed over
pub summed_on : (f : Member → ℤ) (ms : List Member) (i : ℕ) (d : Member) (z : ℤ) → i < length ms → f (get_or ms i d) ≡ pos 0 → Summed f ms i z → Summed f ms (i + 1) z
summed_on f ms i d z l e h = (
  h.0 ∙ sym (+ℤ_idr (total f (take i ms))) ∙ sym (total_more f ms i d l ∙ ap (λ x. total f (take i ms) +ℤ x) e),
  near_wider (2097152 * i) (2097152 * (i + 1)) z (omega arith) h.1,
)

pub summed_all : (f : Member → ℤ) (ms : List Member) (i : ℕ) (z : ℤ) → i ≤ length ms → length ms ≤ i → length ms ≤ 32 → Summed f ms i z → (z ≡ total f ms) × Near 67108864 z
summed_all f ms i z h l few s = (s.0 ∙ ap (total f) (take_all i ms l), near_wider (2097152 * i) 67108864 z (omega arith) s.1)
