use Rattle.std.proofs.Common.{sym, subst}
use Rattle.search.specs.Calls.Answer.{done}
use Rattle.table.specs.Shown.{CallDone, CallExtends}
use Rattle.histories.specs.declared.call.TableCall.{TableCall}
use Rattle.histories.specs.CallViews.{call_of}
use Rattle.histories.proofs.perform.perform.Goals as goal

pub returns-in-Wipe-clause-does : goal.returns-in-Wipe-clause-does
returns-in-Wipe-clause-does g c =
    subst (λ (x : TableCall). CallDone c.args.table.now (call_of x) done c.wipe.new.self) (sym c.in-Wipe.is) c.wipe.ensures.does

pub returns-in-Wipe-clause-history : goal.returns-in-Wipe-clause-history
returns-in-Wipe-clause-history g c =
    subst (λ (x : TableCall). CallExtends c.args.table.now (call_of x) done c.wipe.new.self) (sym c.in-Wipe.is) c.wipe.ensures.history
