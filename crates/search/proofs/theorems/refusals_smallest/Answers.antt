use Rattle.search.proofs.RefusalFacts.{refusals_smallest}
use Rattle.search.proofs.theorems.refusals_smallest.Goals as goal

pub returns : goal.returns
returns c = refusals_smallest
