-- What Close returns and does.
use Rattle.rows.specs.declared.bank.Bank as bank
use Rattle.stores.specs.declared.store.Store as store
use Rattle.std.specs.Prelude.{◌≡◌, ℕ, List, take, Some, None, Ok, Err, Option, Result}
use Rattle.search.specs.Calls.{Call, Answer}
use Rattle.table.specs.declared.table.Table.{Table}
use Rattle.table.specs.Shown.{CallDone, CallExtends}
use Rattle.tickets.specs.declared.refusal.TicketRefusal.{TicketRefusal}
use Rattle.tickets.specs.declared.refusal.TicketRefusal.TheVariants as ticket
use Rattle.tickets.specs.declared.ticket.Ticket.{Ticket}
use Rattle.tickets.specs.declared.ticket.HandedBack.{HandedBack}
use Rattle.tickets.specs.declared.ticket.CloseRefusal.{CloseRefusal}
use Rattle.tickets.specs.declared.ticket.CloseRefusal.TheVariants.{StillOpen, Post}
use Rattle.tickets.specs.Refusals.{ticket_refusal_number}
use Rattle.tickets.specs.Building.{TicketVerdict, row_length}

-- why Close refuses, whoever has the ticket
abbrev pub refusal_of : CloseRefusal → TicketRefusal
refusal_of (StillOpen back) = back.refusal
refusal_of (Post refusal) = ticket.Post refusal

-- the answer of Close
abbrev pub close_answer : Result Unit CloseRefusal → Answer
close_answer (Ok x) = Answer.done
close_answer (Err cause) = Answer.refused (ticket_refusal_number (refusal_of cause))

-- what it hands back: nothing where it posted, and then the ticket is spent
abbrev pub handed_back : Result Unit CloseRefusal → Option HandedBack
handed_back (Ok x) = None
handed_back (Err (StillOpen back)) = Some back
handed_back (Err (Post refusal)) = None

-- what it has to hand back: the ticket as it was, with the first refusal, if there is one
abbrev pub to_hand_back : TicketVerdict → Ticket → Option HandedBack
to_hand_back (Ok x) t = None
to_hand_back (Err refusal) t = Some (record { ticket = t; refusal = refusal })

-- the bytes that it posts: the memory up to the row's length
abbrev pub row_in : Ticket → List ℕ → List ℕ
row_in t memory = take (row_length t) memory

module _ {B S : Type 0} {b : bank.Ghosts B} {s : store.Ghosts S} where
  -- Where nothing is wrong, the table t and its store come to the table u and its store by Post of
  -- these bytes, with this answer; otherwise they stay.
  abbrev pub Posts : TicketVerdict → Table B S b s → List ℕ → Answer → Table B S b s → Type 0
  Posts (Ok x) t bytes a u = CallDone t (Call.post bytes) a u
  Posts (Err refusal) t bytes a u = u ≡ t

  -- and then this Post extends every history of calls
  abbrev pub PostExtends : TicketVerdict → Table B S b s → List ℕ → Answer → Table B S b s → Type 0
  PostExtends (Ok x) t bytes a u = CallExtends t (Call.post bytes) a u
  PostExtends (Err refusal) t bytes a u = u ≡ t
