-- The members of a set that is given as a test's mask.
use Rattle.std.proofs.Common.{◌≡◌, ℕ, ◌^◌, ◌<◌, Bool, sym, ap, ◌∙◌, subst}
use Rattle.sets.specs.Sets.{has, mask}
use Rattle.sets.proofs.Membership.{has_mask, mask_below}

pub members_of : (s : ℕ) (f : ℕ → Bool) → s ≡ mask 64 f → (v : ℕ) → v < 64 → has s v ≡ f v
members_of s f e v l = ap (λ (x : ℕ). has x v) e ∙ has_mask 64 f v l

pub masked_below : (s : ℕ) (f : ℕ → Bool) → s ≡ mask 64 f → s < 2 ^ 64
masked_below s f e = subst (λ (x : ℕ). x < 2 ^ 64) (sym e) (mask_below 64 f)
