use Rattle.std.proofs.Common.{◌≡◌, ℕ, suc, ◌-◌, ◌*◌, ◌%◌, ◌^◌, ◌<◌, ap, ◌∙◌, pow-suc, arith, lit<}
use Rattle.std.proofs.lemmas.Nat.{shl_whole, pow_pos}
use Rattle.std.proofs.lemmas.Bool.{le-leb}
use Rattle.sets.proofs.Masks.{up_to_mask, all_mask}
use Rattle.sets.proofs.values_up_to.Goals as goal

shifted : (v : ℕ) → v < 63 → (2 * 2 ^ v) % 2 ^ 64 ≡ 2 ^ suc v
shifted v h = shl_whole 2 2 v 64 (lit< tt) (omega arith) ∙ omega (arith, pow-suc 2 v)

pub overflow_sub-result : goal.overflow_sub-result
overflow_sub-result c = omega (arith, shifted c.args.value (omega arith), pow_pos (suc c.args.value))

pub returns-then-value-lt63 : goal.returns-then-value-lt63
returns-then-value-lt63 c =
    ap (λ x. x - 1) (shifted c.args.value (omega arith)) ∙ up_to_mask c.args.value (omega arith)

pub returns-else-value-lt63 : goal.returns-else-value-lt63
returns-else-value-lt63 c = all_mask _ (λ v l. le-leb v c.args.value (omega arith))
