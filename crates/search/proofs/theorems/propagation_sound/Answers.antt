use Rattle.search.proofs.PropagationFacts.{propagation_sound}
use Rattle.search.proofs.theorems.propagation_sound.Goals as goal

pub returns : goal.returns
returns c = propagation_sound
