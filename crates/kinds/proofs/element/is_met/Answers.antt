use Rattle.std.proofs.Common.{◌&&◌, nat_eq, length, sym, ap, ◌∙◌, ap₂, nat_abs}
use Rattle.std.proofs.lemmas.Bool.{lt-ltb}
use Rattle.rows.specs.declared.member.Member.{Member}
use Rattle.kinds.proofs.EntrySteps.{entry_at}
use Rattle.kinds.proofs.element.is_met.Goals as goal

pub returns-in-Some : goal.returns-in-Some
returns-in-Some c =
    let found = c.in-Some.ensures.lookup in
    let ms = c.args.entries.now in
    let own = c.value_of.ensures ∙ ap (λ (m : Member). nat_abs m.argument) found.1 ∙ entry_at ms c.args.place c.in-Some.m.now found.3.0 in
    ap₂ ◌&&◌ (sym (lt-ltb c.args.place (length ms) found.3.0)) (ap (nat_eq c.args.value) own)
