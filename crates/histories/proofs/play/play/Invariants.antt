use Rattle.std.proofs.Common.{◌≡◌, ◌≤◌, length, take, reverse, vec_items, vec_len, vec_capacity}
use Rattle.table.specs.Shown.{model, store_in}
use Rattle.histories.specs.CallViews.{calls_of, answers_of, progresses_of}
use Rattle.histories.specs.Replies.{paired}
use Rattle.histories.proofs.Replying.{Counted}
use Rattle.histories.proofs.play.play.Given as goal

abbrev pub invariant-loop-call : goal.invariant-loop-call
invariant-loop-call g l =
    let ys = vec_items l.replies in
    (vec_len l.replies ≡ l.call-index)
    × (length l.calls ≤ vec_capacity l.replies)
    × Counted g.S.Store.behaviour g.B.Bank.meaning (g.S.Store.state l.fn.store) (paired (calls_of (take l.call-index l.calls)) (answers_of ys)) (reverse (progresses_of ys)) (model l.table) (store_in l.table)
