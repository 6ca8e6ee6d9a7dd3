use Rattle.std.proofs.Common.{◌≡◌, ◌∷◌, ◌∙◌, rules}
use Rattle.rows.specs.Written.{written}
use Rattle.rows.proofs.Texts.{wrote_two, wrote_front}
use Rattle.tickets.proofs.Verdicts.{begun}
use Rattle.tickets.proofs.ticket.Ticket.begin.Goals as goal

pub returns-clause-after : goal.returns-clause-after
returns-clause-after g c =
    let text = wrote_two c.put.ensures c.put-2.ensures in
    let same = text.same ∙ c.new-writer.ensures.same in
    let bytes : c.put-2.new.self.out.now ≡ written 0 (c.args.letter ∷ c.args.body.now) c.args.memory.now =
    wrote_front c.new-writer.ensures.place c.new-writer.ensures.bytes text in
    search (rules, same)
    ∙ begun g.B.Bank.meaning c.args.letter c.args.body.now c.args.memory.now c.put-2.new.self.out.now c.in_ok-ticket.ticket c.in_ok-ticket.ensures bytes
