use Rattle.std.proofs.Common.{◌≡◌, ℕ, zero, suc, ◌-◌, ◌*◌, ◌^◌, ◌<◌, ◌≤◌, bit_or, refl, sym, ap, lit<, arith}
use Rattle.std.specs.Int.Count.{count_leading_zeros, leading_unique}
use Rattle.std.proofs.lemmas.Nat.{leading_top, le_or_l, le_or_r, or_lt}
use Rattle.sets.proofs.greatest_value.Goals as goal

-- a set with the value 0 put in has a value
some : (s : ℕ) → s < 2 ^ 64 → count_leading_zeros 64 (bit_or s 1) ≤ 63
some s h =
    let p : 0 < bit_or s 1 = omega (arith, le_or_r s 1) in
    let t = leading_top 64 (bit_or s 1) p (or_lt 64 s 1 h (lit< tt)) in
    omega (arith, t.1)

-- and the same greatest as before, if there was one
same : (s : ℕ) → s < 2 ^ 64 → 63 - count_leading_zeros 64 (bit_or s 1) ≡ 63 - count_leading_zeros 64 s
unfolding count_leading_zeros
same zero h = refl
same (suc s) h =
    let t = leading_top 64 (suc s) (omega arith) h in
    let double : 2 ^ suc t.0 ≡ 2 * 2 ^ t.0 = omega arith in
    let one : 1 < 2 ^ suc t.0 = omega (arith, t.2) in
    ap (λ k. 63 - k) (sym (leading_unique 64 (bit_or (suc s) 1) (count_leading_zeros 64 (suc s)) (suc t.0) t.1 (or_lt (suc t.0) (suc s) 1 t.3 one) (omega (arith, le_or_l (suc s) 1, t.2))))

pub overflow_sub-result : goal.overflow_sub-result
overflow_sub-result c = some c.args.set c.ranges.set.fits

pub returns : goal.returns
returns c = same c.args.set c.ranges.set.fits
