use Rattle.std.specs.Prelude.{◌≡◌, [], length, take, IfOk}
use Rattle.std.proofs.Common.{subst, ap, ap₂, ◌∙◌}
use Rattle.kinds.specs.FourKinds.{four_kinds}
use Rattle.stores.specs.Shelves.{ShelfState, shelf_state, room_of}
use Rattle.stores.specs.ShelfLaws.{shelf}
use Rattle.stores.specs.Shown.{shelf_state_of}
use Rattle.rows.specs.declared.limits.TheConstants.{MOST_SHEET}
use Rattle.job.specs.Planned.{Planned}
use Rattle.job.proofs.standard.planned.Goals as goal

pub returns-clause-history : goal.returns-clause-history
returns-clause-history c =
    let long : length c.new.result.words.now ≡ 4096 = ap length c.new.ensures.words ∙ c.deref_mut.ensures.len ∙ c.in_ok-words.ensures.len in
    let same : shelf_state_of c.new.result ≡ record { held = []; room = 4096 } = ap₂ shelf_state c.new.ensures.used (ap room_of long) in
    subst (λ (s : ShelfState). IfOk c.plan.result (λ text. Planned shelf four_kinds s (take MOST_SHEET c.args.sheet.now) text.items)) same c.plan.ensures.history
