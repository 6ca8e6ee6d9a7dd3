use Rattle.std.proofs.Common.{sym, rules}
use Rattle.rows.proofs.Narrowed.{unchanged}
use Rattle.kinds.proofs.clause.empty_first.Goals as goal

pub returns-in-empty : goal.returns-in-empty
returns-in-empty c = record { after = search rules; value = sym (unchanged c.args.sets.now) }
