use Rattle.std.proofs.Common.{ℕ, List, get_or, pos, Err, Result, ap, ◌∙◌, arith, w16, SFits, to_z, of_z, rules}
use Rattle.std.proofs.lemmas.Result.{err_from_is_err_and}
use Rattle.std.proofs.lemmas.Int.{to_z-of_z}
use Rattle.rows.specs.declared.member.Member.{Member}
use Rattle.tickets.specs.declared.ticket.Ticket.{Ticket}
use Rattle.tickets.specs.declared.ticket.HandedBack.{HandedBack}
use Rattle.tickets.proofs.Giving.{given_none, given_more, given_all, given_full, item_bytes}
use Rattle.tickets.proofs.whole.give_members.Goals as goal

pub loop-member-init : goal.loop-member-init
loop-member-init c = given_none c.args.ticket c.args.memory.now c.args.members.now

pub loop-member-preserved : goal.loop-member-preserved
loop-member-preserved c =
    let blank : Member = record { voice = 0; argument = pos 0 } in
    let x = get_or c.args.members.now c.loop-member.member-index blank in
    let v = get_or c.to_le_bytes.result 0 0 in
    let z = to_z w16 (of_z w16 x.argument) in
    let fits : SFits w16 x.argument = search rules in
    given_more c.args.ticket c.loop-member.current c.in_ok-current.current c.args.memory.now c.loop-member.memory c.give_member.new.memory
    c.args.members.now c.loop-member.member-index v z blank c.requires.within c.requires.room c.loop-member.auto.memory c.loop-member-test.true c.loop-member.invariant
    (item_bytes x v z (ap (λ (l : List ℕ). get_or l 0 0) c.to_le_bytes.ensures) (to_z-of_z w16 x.argument fits))
    c.in_ok-current.ensures.value c.in_ok-current.ensures.after

pub returns-in_err-current : goal.returns-in_err-current
returns-in_err-current c =
    let blank : Member = record { voice = 0; argument = pos 0 } in
    let x = get_or c.args.members.now c.loop-member.member-index blank in
    let v = get_or c.to_le_bytes.result 0 0 in
    let z = to_z w16 (of_z w16 x.argument) in
    let p = err_from_is_err_and c.from_residual.result c.from_residual.ensures.1 in
    let err : HandedBack → Result Ticket HandedBack = λ d. Err d in
    let r = given_full c.args.ticket c.loop-member.current c.args.memory.now c.loop-member.memory c.give_member.new.memory
    c.args.members.now c.loop-member.member-index v z c.in_err-current.field-0.0 c.requires.within c.requires.room c.loop-member.auto.memory c.loop-member-test.true
    c.loop-member.invariant c.in_err-current.ensures.value c.in_err-current.ensures.after in
    record { value = p.1 ∙ ap err p.2 ∙ r.0; after = r.1 }

pub returns : goal.returns
returns c =
    let r = given_all c.args.ticket c.loop-member.current c.args.memory.now c.loop-member.memory c.args.members.now c.loop-member.member-index
    (omega (arith, c.loop-member-test.false, c.loop-member.auto.member-index-end)) c.loop-member.invariant in
    record { value = r.0; after = r.1 }
