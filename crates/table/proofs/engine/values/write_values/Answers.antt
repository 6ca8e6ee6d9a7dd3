use Rattle.std.proofs.Common.{◌≡◌, ℕ, ◌+◌, List, [], ◌∷◌, ◌++◌, map, length, take, drop, set, sym, ap, ◌∙◌, ap₂, arith}
use Rattle.std.proofs.lemmas.List.{take_all, length-map, length-take-le, map_more}
use Rattle.sets.specs.Sets.{least}
use Rattle.stores.proofs.Writing.{put_more}
use Rattle.table.proofs.engine.values.write_values.Goals as goal

pub loop-i-preserved : goal.loop-i-preserved
loop-i-preserved c =
    let s = c.args.sets.now in
    let i = c.loop-i.i in
    let old = c.args.out.now in
    ap (λ (x : List ℕ). set x i c.least_value.result) c.loop-i.invariant
    ∙ put_more (map least (take i s)) old i c.least_value.result (length-map (take i s) least ∙ length-take-le i s (omega arith)) (omega arith)
    ∙ ap (λ (x : ℕ). (map least (take i s) ++ (x ∷ [])) ++ drop (i + 1) old) c.least_value.ensures
    ∙ ap (λ (x : List ℕ). x ++ drop (i + 1) old) (sym (map_more least s i 0 c.loop-i-test.true))

pub returns : goal.returns
returns c =
    let end : c.loop-i.i ≡ length c.args.sets.now = omega (arith, c.loop-i-test.false, c.loop-i.auto.i-end) in
    c.loop-i.invariant
    ∙ ap₂ (λ (x : List ℕ) (n : ℕ). map least x ++ drop n c.args.out.now) (take_all c.loop-i.i c.args.sets.now c.loop-i-test.false) end
