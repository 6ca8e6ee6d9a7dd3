use Rattle.std.proofs.lemmas.List.{get_or-replicate}
use Rattle.stores.proofs.shelf.no_heads.Goals as goal

pub returns : goal.returns
returns c b h = get_or-replicate 1024 b 0 0 h
