use Rattle.std.proofs.Common.{◌<◌, length, take, sym, ◌∙◌, arith}
use Rattle.std.proofs.lemmas.List.{length-take-le}
use Rattle.stores.proofs.Shelving.{same_pointwise}
use Rattle.loose.proofs.Holding.{member_one}
use Rattle.loose.proofs.latest.LatestStore.find.Goals as goal

pub returns-then-self-gt0 : goal.returns-then-self-gt0
returns-then-self-gt0 c =
    let s = c.args.self.now in
    let held = take s.used s.words.now in
    let some : 0 < length held = omega (arith, length-take-le s.used s.words.now s.within, c.if-self-gt0.true) in
    c.eq.ensures ∙ sym (same_pointwise c.args.key.now held) ∙ sym (member_one c.args.key.now held some)
