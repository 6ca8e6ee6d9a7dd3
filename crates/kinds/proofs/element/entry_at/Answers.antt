use Rattle.std.proofs.Common.{sym, ap, ◌∙◌, nat_abs}
use Rattle.rows.specs.declared.member.Member.{Member}
use Rattle.kinds.specs.EntriesLaws.{entry_past}
use Rattle.kinds.proofs.EntrySteps.{entry_at}
use Rattle.kinds.proofs.element.entry_at.Goals as goal

pub returns-in-Some : goal.returns-in-Some
returns-in-Some c =
    let found = c.in-Some.ensures.lookup in
    c.value_of.ensures ∙ ap (λ (m : Member). nat_abs m.argument) found.1 ∙ entry_at c.args.entries.now c.args.place c.in-Some.m.now found.3.0

pub returns-in-None : goal.returns-in-None
returns-in-None c = sym (entry_past c.args.entries.now c.args.place c.in-None.ensures.lookup.3)
