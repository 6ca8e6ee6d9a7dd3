use Rattle.std.proofs.Common.{◌≡◌, ◌*◌, ◌^◌, ◌<◌, pos, ◌*ℤ◌, sym, ◌∙◌, subst, ap₂, arith, w16, w64, SFits, to_z, of_z, rules}
use Rattle.std.proofs.lemmas.Int.{to_z-of_z}
use Rattle.kinds.specs.Sums.{Near}
use Rattle.kinds.proofs.Adding.{near_product, near_fits}
use Rattle.kinds.proofs.linear.product.Goals as goal

-- the factors as the code has them, and that the product fits
same : (c : goal.After-from-2) → (to_z w64 (of_z w64 c.from.result) *ℤ to_z w64 (of_z w64 c.from-2.result)) ≡ (c.args.coefficient *ℤ pos c.args.value)
same c = ap₂ ◌*ℤ◌
    (to_z-of_z w64 _ (record { sfits = c.from.type_inv }) ∙ c.from.ensures ∙ to_z-of_z w16 _ c.ranges.coefficient)
    (to_z-of_z w64 _ (record { sfits = c.from-2.type_inv }) ∙ c.from-2.ensures)

fits : (c : goal.After-from-2) → SFits w64 (c.args.coefficient *ℤ pos c.args.value)
fits c =
    let small : c.args.value < 2 ^ 32 = search rules in
    near_fits (32768 * c.args.value) _ (omega arith) (near_product c.args.coefficient c.args.value c.ranges.coefficient)

pub overflow_mul-result : goal.overflow_mul-result
overflow_mul-result c = subst (λ z. SFits w64 z) (sym (same c)) (fits c)

pub returns : goal.returns
returns c =
    let v : to_z w64 (of_z w64 (to_z w64 (of_z w64 c.from.result) *ℤ to_z w64 (of_z w64 c.from-2.result))) ≡ c.args.coefficient *ℤ pos c.args.value =
    to_z-of_z w64 _ (overflow_mul-result c) ∙ same c
    in
    record { value = v; near = subst (λ z. Near (32768 * c.args.value) z) (sym v) (near_product c.args.coefficient c.args.value c.ranges.coefficient) }
