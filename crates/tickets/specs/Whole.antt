-- A whole row built: what is returned, and what is in memory and in the table afterwards.
use Rattle.std.specs.Prelude.{ℕ, ◌-◌, cond, List, length, take, is_ok, Ok, Err, Result, nat_le, slice_index}
use Rattle.rows.specs.declared.member.Member.{Member}
use Rattle.rows.specs.Rows.{Meaning}
use Rattle.rows.specs.Reading.{checked}
use Rattle.rows.specs.Written.{written}
use Rattle.rows.specs.WrittenRows.{written_members, written_row}
use Rattle.search.specs.Calls.{Answer}
use Rattle.tickets.specs.declared.refusal.TicketRefusal.{TicketRefusal}
use Rattle.tickets.specs.declared.refusal.TicketRefusal.TheVariants.{UnknownLetter, BadCount, WrongLength, ShortMemory, AllGiven, MembersMissing, Post}
use Rattle.tickets.specs.declared.ticket.Ticket.{Ticket}
use Rattle.tickets.specs.declared.ticket.HandedBack.{HandedBack}
use Rattle.tickets.specs.Refusals.{ticket_refusal_number}
use Rattle.tickets.specs.Building.{TicketVerdict, begin_verdict, next_place, advanced}

-- ---- members given one after the other

-- how many are still to be given
abbrev pub missing_members : Ticket → ℕ
missing_members t = t.count - t.given

-- the ticket that many members further, or, where they are too many, the refusal with the ticket of
-- the full row
abbrev pub members_result : Ticket → List Member → Result Ticket HandedBack
members_result t members =
    cond (nat_le (length members) (missing_members t)) (Ok (advanced (length members) t))
    (Err (record { ticket = advanced (missing_members t) t; refusal = AllGiven }))

-- the memory afterwards: as many of them as the row has
abbrev pub members_memory : Ticket → List Member → List ℕ → List ℕ
members_memory t members memory =
    written (next_place t) (written_members (take (missing_members t) members)) memory

-- ---- the whole row

-- the bytes of the row with this letter, body and members
abbrev pub built_bytes : ℕ → List ℕ → List Member → List ℕ
built_bytes letter body members =
    written_row (record { letter = letter; body = body; members = members })

-- the members are as many as the body's first byte says
abbrev pub count_verdict : List ℕ → List Member → TicketVerdict
count_verdict body members =
    checked (nat_le (length members) (slice_index body 0)) AllGiven
    (checked (nat_le (slice_index body 0) (length members)) MembersMissing (Ok tt))

-- the second verdict where the first finds nothing wrong
abbrev pub and_verdict : TicketVerdict → TicketVerdict → TicketVerdict
and_verdict (Ok x) next = next
and_verdict (Err refusal) next = Err refusal

-- the whole row: Begin's verdict, then the count of members
abbrev pub build_verdict : Meaning → ℕ → List ℕ → List Member → ℕ → TicketVerdict
build_verdict m letter body members room =
    and_verdict (begin_verdict m letter body room) (count_verdict body members)

-- the memory afterwards: where Begin accepts, the row with the members that were given is at its
-- front
abbrev pub build_memory : Meaning → ℕ → List ℕ → List Member → List ℕ → List ℕ
build_memory m letter body members memory =
    cond (is_ok (begin_verdict m letter body (length memory)))
    (written 0 (built_bytes letter body (take (slice_index body 0) members)) memory) memory

-- the answer
abbrev pub build_answer : Result Unit TicketRefusal → Answer
build_answer (Ok x) = Answer.done
build_answer (Err refusal) = Answer.refused (ticket_refusal_number refusal)

-- the verdict that a result shows, apart from Post's: nothing is wrong, also where Post refuses, or
-- a refusal of the steps before it
abbrev pub own_verdict : Result Unit TicketRefusal → TicketVerdict
own_verdict (Ok x) = Ok tt
own_verdict (Err UnknownLetter) = Err UnknownLetter
own_verdict (Err BadCount) = Err BadCount
own_verdict (Err WrongLength) = Err WrongLength
own_verdict (Err ShortMemory) = Err ShortMemory
own_verdict (Err AllGiven) = Err AllGiven
own_verdict (Err MembersMissing) = Err MembersMissing
own_verdict (Err (Post refusal)) = Ok tt
