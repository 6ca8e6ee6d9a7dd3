use Rattle.std.proofs.Common.{◌≡◌, ◌-◌, not, length, take, drop, sym, ap, subst, ◌∙◌, arith, length-drop}
use Rattle.std.specs.List.{position}
use Rattle.std.proofs.lemmas.List.{take_all}
use Rattle.sets.specs.Sets.{fixed}
use Rattle.table.specs.Nodes.{FirstOpen}
use Rattle.table.proofs.Openings.{position_none, position_some}
use Rattle.table.proofs.engine.node.first_open.Goals as goal

pub returns-in_err-open : goal.returns-in_err-open
returns-in_err-open c =
    let k = c.args.from in
    let s = c.args.sets.now in
    let part : c.open_place.result ≡ position (λ x. not (fixed x)) (take (length c.args.sets.now - c.args.from) (drop c.args.from c.args.sets.now)) = c.open_place.ensures.value in
    let found = part ∙ ap (position (λ x. not (fixed x))) (take_all (length s - k) (drop k s) (omega (arith, length-drop k s))) in
    subst (FirstOpen k s) (sym c.from_residual.ensures) (position_none k s (sym c.in_err-open.was ∙ found))

pub returns : goal.returns
returns c =
    let k = c.args.from in
    let s = c.args.sets.now in
    let part : c.open_place.result ≡ position (λ x. not (fixed x)) (take (length c.args.sets.now - c.args.from) (drop c.args.from c.args.sets.now)) = c.open_place.ensures.value in
    let found = part ∙ ap (position (λ x. not (fixed x))) (take_all (length s - k) (drop k s) (omega (arith, length-drop k s))) in
    position_some k s c.in_ok-open.open c.requires (sym c.in_ok-open.was ∙ found)
