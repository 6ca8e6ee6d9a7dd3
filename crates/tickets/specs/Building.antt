-- A row built step by step: what Begin and Member return, and what they leave in memory.
use Rattle.std.specs.Prelude.{ℕ, ◌+◌, ◌*◌, Bool, cond, List, ◌∷◌, length, ℤ, is_ok, Ok, Err, Result, ◌==◌, nat_le, nat_lt, slice_index}
use Rattle.rows.specs.Rows.{Meaning}
use Rattle.rows.specs.Bytes.{counted}
use Rattle.rows.specs.Reading.{checked}
use Rattle.rows.specs.Written.{written}
use Rattle.rows.specs.WrittenRows.{written_member}
use Rattle.tickets.specs.declared.refusal.TicketRefusal.{TicketRefusal}
use Rattle.tickets.specs.declared.refusal.TicketRefusal.TheVariants.{UnknownLetter, BadCount, WrongLength, ShortMemory, AllGiven, MembersMissing}
use Rattle.tickets.specs.declared.ticket.Ticket.{Ticket}
use Rattle.tickets.specs.declared.ticket.HandedBack.{HandedBack}

-- ---- the ticket

-- the length of its row: letter and body, then four bytes for each member
abbrev pub row_length : Ticket → ℕ
row_length t = t.head + 4 * t.count

-- where its next member goes
abbrev pub next_place : Ticket → ℕ
next_place t = t.head + 4 * t.given

-- the ticket of a body, with no member given
abbrev pub new_ticket : List ℕ → Ticket
new_ticket body = record { head = 1 + length body; count = slice_index body 0; given = 0 }

-- the ticket, so many members further
abbrev pub advanced : ℕ → Ticket → Ticket
advanced n t = record { head = t.head; count = t.count; given = t.given + n }

-- ---- the tests, in memory of `room` bytes

-- nothing is wrong, or the first refusal
abbrev pub TicketVerdict : Type 0
TicketVerdict = Result Unit TicketRefusal

-- the row of the ticket fits the memory
abbrev pub row_fits : Ticket → ℕ → Bool
row_fits t room = nat_le (row_length t) room

-- Begin: the bank knows the letter, the count is there and is 1 to 32, the body is as long as the
-- letter asks, and the row fits
abbrev pub begin_verdict : Meaning → ℕ → List ℕ → ℕ → TicketVerdict
begin_verdict m letter body room =
    checked (m.known letter) UnknownLetter
    (checked (counted (letter ∷ body)) BadCount
    (checked (length body == m.body_length letter) WrongLength
    (checked (row_fits (new_ticket body) room) ShortMemory (Ok tt))))

-- Member: the row fits, and not all members are given
abbrev pub member_verdict : Ticket → ℕ → TicketVerdict
member_verdict t room =
    checked (row_fits t room) ShortMemory (checked (nat_lt t.given t.count) AllGiven (Ok tt))

-- Close: the row fits, and no member is missing
abbrev pub close_verdict : Ticket → ℕ → TicketVerdict
close_verdict t room =
    checked (row_fits t room) ShortMemory (checked (nat_le t.count t.given) MembersMissing (Ok tt))

-- ---- Begin

-- the ticket where nothing is wrong, else the refusal
abbrev pub ticket_or_refusal : TicketVerdict → Ticket → Result Ticket TicketRefusal
ticket_or_refusal (Ok x) t = Ok t
ticket_or_refusal (Err refusal) t = Err refusal

-- what Begin returns
abbrev pub begin_result : Meaning → ℕ → List ℕ → ℕ → Result Ticket TicketRefusal
begin_result m letter body room =
    ticket_or_refusal (begin_verdict m letter body room) (new_ticket body)

-- the memory afterwards: letter and body at its front
abbrev pub begin_memory : Meaning → ℕ → List ℕ → List ℕ → List ℕ
begin_memory m letter body memory =
    cond (is_ok (begin_verdict m letter body (length memory)))
    (written 0 (letter ∷ body) memory) memory

-- ---- Member

-- where nothing is wrong the ticket one member further, else the refusal with the ticket as it was
abbrev pub advanced_or_back : TicketVerdict → Ticket → Result Ticket HandedBack
advanced_or_back (Ok x) t = Ok (advanced 1 t)
advanced_or_back (Err refusal) t = Err (record { ticket = t; refusal = refusal })

-- what Member returns
abbrev pub member_result : Ticket → ℕ → Result Ticket HandedBack
member_result t room = advanced_or_back (member_verdict t room) t

-- the memory afterwards: the member at its place
abbrev pub member_memory : Ticket → ℕ → ℤ → List ℕ → List ℕ
member_memory t voice argument memory =
    cond (is_ok (member_verdict t (length memory)))
    (written (next_place t) (written_member (record { voice = voice; argument = argument })) memory)
    memory
