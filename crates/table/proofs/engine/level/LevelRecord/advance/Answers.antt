use Rattle.std.proofs.Common.{◌≡◌, ℕ, ◌^◌, ◌<◌, eqb, ap, ◌∙◌, arith, rules}
use Rattle.sets.specs.Sets.{mask}
use Rattle.sets.proofs.Membership.{least_below}
use Rattle.table.specs.declared.engine.level.LevelRecord.{LevelRecord}
use Rattle.table.proofs.Tests.{least_taken}
use Rattle.table.proofs.engine.level.LevelRecord.advance.Goals as goal

pub overflow_sub-self : goal.overflow_sub-self
overflow_sub-self c =
    let l = c.args.self.now in
    let f : l.left < 2 ^ 64 = search rules in
    let e : c.single.result ≡ mask 64 (λ v. eqb v c.least_value-value.result) = c.single.ensures in
    (least_taken l.left c.single.result f (e ∙ ap (λ (x : ℕ). mask 64 (λ v. eqb v x)) c.least_value-value.ensures)).0

pub returns-clause-after : goal.returns-clause-after
returns-clause-after c =
    let l = c.args.self.now in
    let f : l.left < 2 ^ 64 = search rules in
    let e : c.single.result ≡ mask 64 (λ v. eqb v c.least_value-value.result) = c.single.ensures in
    let t = least_taken l.left c.single.result f (e ∙ ap (λ (x : ℕ). mask 64 (λ v. eqb v x)) c.least_value-value.ensures) in
    let at : ℕ → LevelRecord = λ x. record { voice = l.voice; left = x } in
    ap at t.2

pub returns-clause-inside : goal.returns-clause-inside
returns-clause-inside c = λ some.
    let f : c.args.self.now.left < 2 ^ 64 = search rules in
    omega (arith, least_below c.args.self.now.left some f, c.least_value-value.ensures)
