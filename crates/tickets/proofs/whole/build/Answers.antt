use Rattle.std.proofs.Common.{length, Ok, Err, Result, refl, ap, ◌∙◌}
use Rattle.std.proofs.lemmas.Result.{err_from_is_err_and}
use Rattle.tickets.specs.declared.refusal.TicketRefusal.{TicketRefusal}
use Rattle.tickets.proofs.Built.{not_begun, filled, too_many, built_not, built_by}
use Rattle.tickets.proofs.whole.build.Goals as goal

pub returns-in_err-ticket : goal.returns-in_err-ticket
returns-in_err-ticket g c =
    let m = g.B.Bank.meaning in
    let t = c.args.table.now in
    let f = c.in_err-ticket.field-0.0 in
    let r = not_begun m c.args.letter c.args.body.now c.args.memory.now c.begin.new.memory c.args.members.now f
    c.in_err-ticket.ensures.value c.in_err-ticket.ensures.after in
    let p = err_from_is_err_and c.from_residual.result c.from_residual.ensures.1 in
    let err : TicketRefusal → Result (Unit {0}) TicketRefusal = λ x. Err x in
    let b = built_not m c.args.letter c.args.body.now c.args.memory.now c.args.members.now t t c.from_residual.result c.begin.new.memory f refl
    (p.1 ∙ ap err p.2) r.0 r.1 in
    record { value = b.value; does = b.does; history = b.history; memory = b.memory }

pub returns-in_err-given : goal.returns-in_err-given
returns-in_err-given g c =
    let m = g.B.Bank.meaning in
    let t = c.args.table.now in
    let mem = c.args.memory.now in
    let d = c.in_err-given.field-0.0 in
    let f = filled m c.args.letter c.args.body.now mem c.begin.new.memory c.give_members.new.memory c.args.members.now c.in_ok-ticket.ticket
    c.in_ok-ticket.ensures.value c.in_ok-ticket.ensures.after c.in_err-given.ensures.after in
    let r = too_many m c.args.letter c.args.body.now (length mem) c.args.members.now c.in_ok-ticket.ticket d
    c.in_ok-ticket.ensures.value c.in_err-given.ensures.value in
    let p = err_from_is_err_and c.from_residual-in_err-given.result c.from_residual-in_err-given.ensures.1 in
    let err : TicketRefusal → Result (Unit {0}) TicketRefusal = λ x. Err x in
    let b = built_not m c.args.letter c.args.body.now mem c.args.members.now t t c.from_residual-in_err-given.result c.give_members.new.memory d.refusal refl
    (p.1 ∙ ap err p.2) r f.0 in
    record { value = b.value; does = b.does; history = b.history; memory = b.memory }

pub returns-in_err-close : goal.returns-in_err-close
returns-in_err-close g c =
    let p = err_from_is_err_and c.from_residual-in_err-close.result c.from_residual-in_err-close.ensures.1 in
    let err : TicketRefusal → Result (Unit {0}) TicketRefusal = λ x. Err x in
    let b = built_by g.B.Bank.meaning c.args.letter c.args.body.now c.args.memory.now c.args.members.now c.args.table.now c.close.new.table
    c.begin.new.memory c.give_members.new.memory c.in_ok-ticket.ticket c.in_ok-given.given (Err c.in_err-close.field-0.0) c.from_residual-in_err-close.result
    (p.1 ∙ ap err p.2) c.in_ok-ticket.ensures.value c.in_ok-ticket.ensures.after c.in_ok-given.ensures.value c.in_ok-given.ensures.after
    (c.give_members.auto.memory ∙ c.begin.auto.memory) c.in_err-close.ensures.back c.in_err-close.ensures.does c.in_err-close.ensures.history in
    record { value = b.value; does = b.does; history = b.history; memory = b.memory }

pub returns : goal.returns
returns g c =
    let b = built_by g.B.Bank.meaning c.args.letter c.args.body.now c.args.memory.now c.args.members.now c.args.table.now c.close.new.table
    c.begin.new.memory c.give_members.new.memory c.in_ok-ticket.ticket c.in_ok-given.given (Ok c.in_ok-close.field-0) (Ok c.in_ok-close.field-0)
    refl c.in_ok-ticket.ensures.value c.in_ok-ticket.ensures.after c.in_ok-given.ensures.value c.in_ok-given.ensures.after
    (c.give_members.auto.memory ∙ c.begin.auto.memory) c.in_ok-close.ensures.back c.in_ok-close.ensures.does c.in_ok-close.ensures.history in
    record { value = b.value; does = b.does; history = b.history; memory = b.memory }
