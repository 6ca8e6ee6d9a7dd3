-- The number and the message of each refusal.
use Rattle.std.specs.Prelude.{ℕ, List, codes}
use Rattle.table.specs.Refusals.{refusal_number, refusal_message}
use Rattle.tickets.specs.declared.refusal.TicketRefusal.{TicketRefusal}
use Rattle.tickets.specs.declared.refusal.TicketRefusal.TheVariants.{UnknownLetter, BadCount, WrongLength, ShortMemory, AllGiven, MembersMissing, Post}

abbrev pub ticket_refusal_number : TicketRefusal → ℕ
ticket_refusal_number UnknownLetter = 2
ticket_refusal_number BadCount = 5
ticket_refusal_number WrongLength = 6
ticket_refusal_number ShortMemory = 6
ticket_refusal_number AllGiven = 17
ticket_refusal_number MembersMissing = 18
ticket_refusal_number (Post refusal) = refusal_number refusal

abbrev pub ticket_refusal_message : TicketRefusal → List ℕ
ticket_refusal_message UnknownLetter = codes "the bank has no kind with this letter"
ticket_refusal_message BadCount = codes "the count of members is missing or not 1 to 32"
ticket_refusal_message WrongLength = codes "the body has not the length that its letter asks for"
ticket_refusal_message ShortMemory = codes "the memory is shorter than the row"
ticket_refusal_message AllGiven = codes "the row has all its members"
ticket_refusal_message MembersMissing = codes "the row lacks members"
ticket_refusal_message (Post refusal) = refusal_message refusal
