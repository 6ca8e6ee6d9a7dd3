use Rattle.tickets.proofs.Giving.{Given}
use Rattle.tickets.proofs.whole.give_members.Given as goal

abbrev pub invariant-loop-member : goal.invariant-loop-member
invariant-loop-member l = Given l.initial.current l.initial.memory l.members l.member-index l.current l.memory
