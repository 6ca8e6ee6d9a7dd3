use Rattle.stores.specs.Bare.{bare}
use Rattle.stores.specs.ShelfLaws.{shelf}
use Rattle.stores.proofs.Deciding.{bare_decided, shelf_decided}
use Rattle.search.proofs.OutcomeFacts.{one_outcome, one_history}
use Rattle.search.proofs.theorems.shelf_and_bare_decide.Goals as goal

pub returns : goal.returns
returns c = record {
  shelf = (shelf_decided, one_outcome shelf shelf_decided, one_history shelf shelf_decided);
  bare = (bare_decided, one_outcome bare bare_decided, one_history bare bare_decided);
}
