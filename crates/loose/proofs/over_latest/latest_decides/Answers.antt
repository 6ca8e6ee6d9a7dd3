use Rattle.std.proofs.Common.{[], refl}
use Rattle.stores.specs.Behaviours.{Decided}
use Rattle.search.proofs.OutcomeFacts.{one_history}
use Rattle.loose.specs.LatestKey.{latest_answer, latest_after}
use Rattle.loose.specs.LatestLaws.{latest}
use Rattle.loose.proofs.over_latest.latest_decides.Goals as goal

decided : Decided latest
decided = record {
  emptied = λ s. record { held = []; room = s.room };
  answer = latest_answer;
  after = latest_after;
  empties = λ s. refl;
  keeps = λ s k. (refl, refl);
  emptied_only = λ s t h. h;
  answer_only = λ s t k a h. h.0;
  after_only = λ s t k a h. h.1;
}

pub returns : goal.returns
returns c = (decided, one_history latest decided)
