use Rattle.std.proofs.Common.{◌≡◌, List, ◌∷◌, length, take, reverse, vec_items, sym, ap, ◌∙◌, subst, arith}
use Rattle.table.specs.Shown.{model, store_in}
use Rattle.histories.specs.declared.reply.Reply.{Reply}
use Rattle.histories.specs.declared.reply.Progress.{Progress}
use Rattle.histories.specs.CallViews.{call_of, answer_of, calls_of, answers_of, progresses_of}
use Rattle.histories.specs.Replies.{paired, progress_after}
use Rattle.histories.proofs.Replying.{Counted, none_counted, counted_then, one_more, all_played}
use Rattle.histories.proofs.play.play.Goals as goal

pub loop-call-init : goal.loop-call-init
loop-call-init g c =
    let H = c.in_ok-table.ensures in
    let e : progress_after H ≡ reverse (progresses_of (vec_items c.in_ok-replies.replies)) =
    none_counted g.S.Store.behaviour g.B.Bank.meaning (g.S.Store.state c.args.store) H ∙ ap (λ (ys : List Reply). reverse (progresses_of ys)) (sym c.in_ok-replies.ensures.items) in
    (c.in_ok-replies.ensures.len, omega (arith, c.in_ok-replies.ensures.capacity), (H, e))

pub loop-call-preserved : goal.loop-call-preserved
loop-call-preserved g c =
    let st = g.S.Store.behaviour in
    let m = g.B.Bank.meaning in
    let given = g.S.Store.state c.args.store in
    let xs = c.args.calls.now in
    let ys = vec_items c.loop-call.replies in
    let i = c.loop-call.call-index in
    let before = c.loop-call.invariant.2 in
    let t = c.loop-call.table in
    let u = c.perform.new.table in
    let d = c.in_ok-perform.ensures.does in
    let x = c.call-item.result in
    let a = c.in_ok-perform.field-0 in
    let k = c.of.result in
    let many : length ys ≡ i = omega (arith, c.loop-call.replies.ok, c.loop-call.invariant.0) in (
      omega (arith, c.push_reserved.ensures.len, c.loop-call.invariant.0),
      omega (arith, c.push_reserved.ensures.capacity, c.loop-call.invariant.1),
      one_more st m given {t = model u} {s = store_in u} xs ys (vec_items c.push_reserved.new.self) i x (record { answer = a; progress = k }) c.loop-call-test.true many
          c.call-item.is c.push_reserved.ensures.items
          (subst
          (λ (z : Progress). Counted st m given ((call_of x, answer_of a) ∷ paired (calls_of (take i xs)) (answers_of ys)) (z ∷ reverse (progresses_of ys)) (model u) (store_in u))
          (sym c.of.ensures)
          (counted_then st m given (model t) (model u) (store_in t) (store_in u) (call_of x) (answer_of a) c.in_ok-perform.ensures.history d before)),
    )

pub returns : goal.returns
returns g c =
    let ys = vec_items c.loop-call.replies in
    let i = c.loop-call.call-index in
    let t = c.loop-call.table in
    let before = c.loop-call.invariant.2 in
    let many : length ys ≡ i = omega (arith, c.loop-call.replies.ok, c.loop-call.invariant.0) in
    all_played g.S.Store.behaviour g.B.Bank.meaning g.met.B.Bank.lawful (g.S.Store.state c.args.store) c.args.calls.now ys i (model t) (store_in t) c.loop-call-test.false
    c.loop-call.auto.call-index-end many before
