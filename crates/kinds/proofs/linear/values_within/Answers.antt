use Rattle.std.proofs.Common.{◌+◌, ◌/◌, ◌%◌, min, leb, pos, nat_abs, sym, ap, ◌∙◌, ap₂, w16, w64}
use lib.Signed.{le_z, lt_z}
use Rattle.sets.specs.Sets.{mask}
use Rattle.std.proofs.lemmas.Int.{to_z-of_z}
use Rattle.kinds.proofs.Slacks.{up_to_within, all_within, from_within, none_within}
use Rattle.kinds.proofs.linear.values_within.Goals as goal

pub returns-then-coefficient-gt0 : goal.returns-then-coefficient-gt0
returns-then-coefficient-gt0 c =
    let a = to_z-of_z w16 c.args.coefficient c.ranges.coefficient in
    let z = to_z-of_z w64 c.args.slack c.ranges.slack in
    let room = c.unsigned_abs-room.ensures.value ∙ ap nat_abs z in
    let factor = c.from-factor.ensures ∙ c.unsigned_abs.ensures.value ∙ ap nat_abs a in
    let quotient = c.min.ensures ∙ ap₂ (λ x y. min (x / y) 63) room factor in
    c.values_up_to.ensures ∙ ap (λ x. mask 64 (λ v. leb v x)) quotient
    ∙ up_to_within c.args.coefficient c.args.slack (ap (lt_z (pos 0)) (sym a) ∙ c.if-coefficient-gt0.true) (ap (le_z (pos 0)) (sym z) ∙ c.if-slack-ge0.true)

pub returns-else-coefficient-gt0 : goal.returns-else-coefficient-gt0
returns-else-coefficient-gt0 c =
    let a = to_z-of_z w16 c.args.coefficient c.ranges.coefficient in
    let z = to_z-of_z w64 c.args.slack c.ranges.slack in
    all_within c.args.coefficient c.args.slack (ap (lt_z (pos 0)) (sym a) ∙ c.if-coefficient-gt0.false) (ap (le_z (pos 0)) (sym z) ∙ c.if-slack-ge0.true)

pub returns-then-coefficient-lt0 : goal.returns-then-coefficient-lt0
returns-then-coefficient-lt0 c =
    let a = to_z-of_z w16 c.args.coefficient c.ranges.coefficient in
    let z = to_z-of_z w64 c.args.slack c.ranges.slack in
    let room = c.unsigned_abs-room.ensures.value ∙ ap nat_abs z in
    let factor = c.from-factor.ensures ∙ c.unsigned_abs.ensures.value ∙ ap nat_abs a in
    let quotient = c.min-then-coefficient-lt0.ensures ∙ ap (λ x. min x 64) (c.div_ceil.ensures ∙ ap₂ (λ x y. x / y + min 1 (x % y)) room factor) in
    c.values_from.ensures ∙ ap (λ x. mask 64 (λ v. leb x v)) quotient
    ∙ from_within c.args.coefficient c.args.slack (ap (λ x. lt_z x (pos 0)) (sym a) ∙ c.if-coefficient-lt0.true) (ap (le_z (pos 0)) (sym z) ∙ c.if-slack-ge0.false)

pub returns-else-coefficient-lt0 : goal.returns-else-coefficient-lt0
returns-else-coefficient-lt0 c =
    let a = to_z-of_z w16 c.args.coefficient c.ranges.coefficient in
    let z = to_z-of_z w64 c.args.slack c.ranges.slack in
    none_within c.args.coefficient c.args.slack (ap (λ x. lt_z x (pos 0)) (sym a) ∙ c.if-coefficient-lt0.false) (ap (le_z (pos 0)) (sym z) ∙ c.if-slack-ge0.false)
