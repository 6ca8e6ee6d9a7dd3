use Rattle.std.proofs.Common.{vec_items}
use Rattle.histories.specs.CallViews.{calls_of, answers_of, progresses_of}
use Rattle.histories.proofs.Replying.{agreed_by}
use Rattle.histories.proofs.play.play_both.Goals as goal

pub returns : goal.returns
returns g c =
    let p = c.in_ok-replies.ensures in
    let q = c.in_ok-others.ensures in
    record {
      first = p;
      second = q;
      agreed = agreed_by g.S.Store.behaviour g.R.Store.behaviour g.B.Bank.meaning g.C.Bank.meaning g.met.B.Bank.lawful g.met.C.Bank.lawful (calls_of c.args.calls.now) (calls_of c.args.other_calls.now)
          (answers_of (vec_items c.in_ok-replies.replies)) (answers_of (vec_items c.in_ok-others.others))
          (progresses_of (vec_items c.in_ok-replies.replies)) (progresses_of (vec_items c.in_ok-others.others)) (g.S.Store.state c.args.store) (g.R.Store.state c.args.other_store) p q;
    }
