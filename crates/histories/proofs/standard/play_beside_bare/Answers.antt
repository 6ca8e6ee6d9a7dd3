use Rattle.std.proofs.Common.{◌≡◌, [], length, ap, ap₂, ◌∙◌, subst, IfOk}
use Rattle.kinds.specs.FourKinds.{four_kinds}
use Rattle.stores.specs.Shelves.{ShelfState, shelf_state, room_of}
use Rattle.stores.specs.ShelfLaws.{shelf}
use Rattle.stores.specs.Shown.{shelf_state_of}
use Rattle.histories.specs.CallViews.{calls_of, answers_of, progresses_of}
use Rattle.histories.specs.Replies.{Played}
use Rattle.histories.proofs.standard.play_beside_bare.Goals as goal

-- a new shelf uses none of its words
pub returns-clause-over_shelf : goal.returns-clause-over_shelf
returns-clause-over_shelf c =
    let long : length c.new.result.words.now ≡ c.args.count = ap length c.new.ensures.words ∙ c.deref_mut.ensures.len ∙ c.in_ok-words.ensures.len in
    let same : shelf_state_of c.new.result ≡ record { held = []; room = room_of c.args.count } = ap₂ shelf_state c.new.ensures.used (ap room_of long) in
    subst (λ (s : ShelfState). IfOk c.play_both.result (λ both. Played shelf four_kinds s (calls_of c.args.calls.now) (answers_of both.1.items) (progresses_of both.1.items))) same c.play_both.ensures.second

pub returns-clause-over_bare : goal.returns-clause-over_bare
returns-clause-over_bare c = c.play_both.ensures.first
