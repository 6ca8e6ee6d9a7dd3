-- What verdicts say of answers, memory and table.
use Rattle.rows.specs.declared.bank.Bank as bank
use Rattle.stores.specs.declared.store.Store as store
use Rattle.std.proofs.Common.{◌≡◌, ℕ, ◌≤◌, Bool, true, false, cond, eqb, List, ◌∷◌, length, is_ok, Ok, Err, sym, refl, ap, ◌∙◌, subst}
use Rattle.std.proofs.lemmas.Bool.{leb-true}
use Rattle.rows.specs.Bytes.{counted}
use Rattle.rows.specs.Rows.{Meaning}
use Rattle.rows.specs.Reading.{checked}
use Rattle.rows.specs.Written.{written}
use Rattle.search.specs.Calls.{Call, Answer}
use Rattle.table.specs.declared.table.Table.{Table}
use Rattle.table.specs.Shown.{CallDone, CallExtends}
use Rattle.tickets.specs.declared.refusal.TicketRefusal.{TicketRefusal}
use Rattle.tickets.specs.declared.refusal.TicketRefusal.TheVariants.{UnknownLetter, BadCount, WrongLength, ShortMemory}
use Rattle.tickets.specs.declared.ticket.Ticket.{Ticket}
use Rattle.tickets.specs.Building.{TicketVerdict, row_fits, row_length, ticket_or_refusal, new_ticket, begin_verdict, begin_result, begin_memory}
use Rattle.tickets.specs.Closing.{Posts, PostExtends}

-- ---- tests

-- a test that did not end in its refusal
pub checked_passed : (b : Bool) (f : TicketRefusal) (next : TicketVerdict) → checked b f next ≡ Ok tt → (b ≡ true) × (next ≡ Ok tt)
checked_passed true f next e = (refl, e)
checked_passed false f next e = (cc, cc)

-- ---- Begin

-- a ticket is given only where nothing is wrong, and is the right one
pub ticket_passed : (v : TicketVerdict) (t u : Ticket) → Ok t ≡ ticket_or_refusal v u → (v ≡ Ok tt) × (t ≡ u)
ticket_passed (Ok tt) t u e = (refl, cc)
ticket_passed (Err refusal) t u e = (cc, cc)

pub ticket_failed : (v : TicketVerdict) (u : Ticket) (f : TicketRefusal) → Err f ≡ ticket_or_refusal v u → v ≡ Err f
ticket_failed (Ok tt) u f e = cc
ticket_failed (Err refusal) u f e = cc

-- then the memory has room for the row
pub begin_room : (m : Meaning) (letter : ℕ) (body : List ℕ) (room : ℕ) → begin_verdict m letter body room ≡ Ok tt → row_length (new_ticket body) ≤ room
begin_room m letter body room e =
    let last : TicketVerdict = checked (row_fits (new_ticket body) room) ShortMemory (Ok tt) in
    let third : TicketVerdict = checked (eqb (length body) (m.body_length letter)) WrongLength last in
    let a = checked_passed (m.known letter) UnknownLetter (checked (counted (letter ∷ body)) BadCount third) e in
    let b = checked_passed (counted (letter ∷ body)) BadCount third a.1 in
    let c = checked_passed (eqb (length body) (m.body_length letter)) WrongLength last b.1 in
    leb-true (row_length (new_ticket body)) room (checked_passed (row_fits (new_ticket body) room) ShortMemory (Ok tt) c.1).0

-- Begin's writing
pub begun : (m : Meaning) (letter : ℕ) (body mem after : List ℕ) (t : Ticket) → Ok t ≡ begin_result m letter body (length mem)
    → after ≡ written 0 (letter ∷ body) mem → after ≡ begin_memory m letter body mem
begun m letter body mem after t e w =
    let v = begin_verdict m letter body (length mem) in
    w ∙ sym (ap (λ (x : TicketVerdict). cond (is_ok x) (written 0 (letter ∷ body) mem) mem) (ticket_passed v t (new_ticket body) e).0)

-- ---- the table

module _ {B S : Type 0} {b : bank.Ghosts B} {s : store.Ghosts S} (t u : Table B S b s) (a : Answer) where
  -- refused: the table stays
  pub stays : (v : TicketVerdict) (f : TicketRefusal) (bytes : List ℕ) → v ≡ Err f → u ≡ t → Posts v t bytes a u × PostExtends v t bytes a u
  stays v f bytes e same = (subst (λ (x : TicketVerdict). Posts x t bytes a u) (sym e) same, subst (λ (x : TicketVerdict). PostExtends x t bytes a u) (sym e) same)

  -- the same verdict, and where it finds nothing wrong the same bytes
  pub posts_same : (v w : TicketVerdict) (bytes others : List ℕ) → v ≡ w → (w ≡ Ok tt → bytes ≡ others) → Posts v t bytes a u → Posts w t others a u
  posts_same v (Ok tt) bytes others e same h =
      subst (λ (x : List ℕ). CallDone t (Call.post x) a u) (same refl) (subst (λ (x : TicketVerdict). Posts x t bytes a u) e h)
  posts_same v (Err f) bytes others e same h = subst (λ (x : TicketVerdict). Posts x t bytes a u) e h

  pub extends_same : (v w : TicketVerdict) (bytes others : List ℕ) → v ≡ w → (w ≡ Ok tt → bytes ≡ others) → PostExtends v t bytes a u → PostExtends w t others a u
  extends_same v (Ok tt) bytes others e same h =
      subst (λ (x : List ℕ). CallExtends t (Call.post x) a u) (same refl) (subst (λ (x : TicketVerdict). PostExtends x t bytes a u) e h)
  extends_same v (Err f) bytes others e same h = subst (λ (x : TicketVerdict). PostExtends x t bytes a u) e h
