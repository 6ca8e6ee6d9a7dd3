-- A whole row built.
use Rattle.rows.specs.declared.bank.Bank as bank
use Rattle.stores.specs.declared.store.Store as store
use Rattle.std.proofs.Common.{◌≡◌, ℕ, ◌≤◌, Bool, true, false, cond, eqb, leb, List, ◌∷◌, length, get_or, take, is_ok, Ok, Err, Result, sym, refl, ap, ◌∙◌, subst, ap₂, arith}
use Rattle.std.proofs.lemmas.Bool.{leb-true, le-leb}
use Rattle.std.proofs.lemmas.List.{take_all, length-append}
use Rattle.rows.specs.declared.member.Member.{Member}
use Rattle.rows.specs.Rows.{Meaning}
use Rattle.rows.specs.Bytes.{counted}
use Rattle.rows.specs.Reading.{checked}
use Rattle.rows.specs.Written.{written}
use Rattle.rows.specs.WrittenRows.{written_members}
use Rattle.rows.proofs.RowBytes.{members_length}
use Rattle.search.specs.Calls.{Answer}
use Rattle.table.specs.declared.table.Table.{Table}
use Rattle.tickets.specs.declared.refusal.TicketRefusal.{TicketRefusal}
use Rattle.tickets.specs.declared.refusal.TicketRefusal.TheVariants.{UnknownLetter, BadCount, WrongLength, ShortMemory, AllGiven, MembersMissing}
use Rattle.tickets.specs.declared.ticket.Ticket.{Ticket}
use Rattle.tickets.specs.declared.ticket.HandedBack.{HandedBack}
use Rattle.tickets.specs.Building.{TicketVerdict, row_fits, row_length, next_place, new_ticket, advanced, begin_verdict, begin_result, begin_memory, close_verdict}
use Rattle.tickets.specs.declared.ticket.CloseRefusal.{CloseRefusal}
use Rattle.tickets.specs.declared.ticket.CloseRefusal.TheVariants.{StillOpen, Post}
use Rattle.tickets.specs.Closing.{refusal_of, close_answer, handed_back, to_hand_back, row_in, Posts, PostExtends}
use Rattle.tickets.specs.Whole.{missing_members, members_result, members_memory, built_bytes, count_verdict, and_verdict, build_verdict, build_memory, build_answer, own_verdict}
use Rattle.tickets.proofs.Writings.{written_more, read_front}
use Rattle.tickets.proofs.Verdicts.{checked_passed, ticket_passed, ticket_failed, begin_room, stays, posts_same, extends_same}

-- ---- Begin refuses

pub not_begun : (m : Meaning) (letter : ℕ) (body mem after : List ℕ) (members : List Member) (f : TicketRefusal)
    → Err f ≡ begin_result m letter body (length mem) → after ≡ begin_memory m letter body mem
    → (build_verdict m letter body members (length mem) ≡ Err f) × (after ≡ build_memory m letter body members mem)
not_begun m letter body mem after members f e w =
    let v = ticket_failed (begin_verdict m letter body (length mem)) (new_ticket body) f e in (
      ap (λ (x : TicketVerdict). and_verdict x (count_verdict body members)) v,
      w ∙ ap (λ (x : TicketVerdict). cond (is_ok x) (written 0 (letter ∷ body) mem) mem) v
          ∙ sym (ap (λ (x : TicketVerdict). cond (is_ok x) (written 0 (built_bytes letter body (take (get_or body 0 0) members)) mem) mem) v),
    )

-- ---- Begin accepts

-- the memory after Begin, and after the members
pub filled : (m : Meaning) (letter : ℕ) (body mem begun after : List ℕ) (members : List Member) (t : Ticket)
    → Ok t ≡ begin_result m letter body (length mem) → begun ≡ begin_memory m letter body mem → after ≡ members_memory t members begun
    → (after ≡ build_memory m letter body members mem) × (after ≡ written 0 (built_bytes letter body (take (get_or body 0 0) members)) mem)
filled m letter body mem begun after members t e b w =
    let n = get_or body 0 0 in
    let new = new_ticket body in
    let p = ticket_passed (begin_verdict m letter body (length mem)) t new e in
    let room = begin_room m letter body (length mem) p.0 in
    let front : begun ≡ written 0 (letter ∷ body) mem = b ∙ ap (λ (x : TicketVerdict). cond (is_ok x) (written 0 (letter ∷ body) mem) mem) p.0 in
    let all : missing_members new ≡ n = omega arith in
    let whole : after ≡ written 0 (built_bytes letter body (take n members)) mem =
    w ∙ ap₂ (λ (x : Ticket) (y : List ℕ). members_memory x members y) p.1 front
    ∙ written_more mem (letter ∷ body) (written_members (take (missing_members new) members)) 0 (next_place new) (omega arith)
    ∙ ap (λ k. written 0 (built_bytes letter body (take k members)) mem) all in (
      whole ∙ sym (ap (λ (x : TicketVerdict). cond (is_ok x) (written 0 (built_bytes letter body (take n members)) mem) mem) p.0),
      whole,
    )

-- what comes of members that fit, and of too many
answer_full : (b : Bool) (t u : Ticket) (d : HandedBack) → Ok u ≡ cond b (Ok t) (Err d) → (b ≡ true) × (u ≡ t)
answer_full true t u d e = (refl, cc)
answer_full false t u d e = (cc, cc)

answer_back : (b : Bool) (t w : Ticket) (d : HandedBack) → Err d ≡ cond b (Ok t) (Err (record { ticket = w; refusal = AllGiven })) → (b ≡ false) × (d.refusal ≡ AllGiven)
answer_back true t w d e = (cc, cc)
answer_back false t w d e = (refl, cc)

-- too many members
pub too_many : (m : Meaning) (letter : ℕ) (body : List ℕ) (room : ℕ) (members : List Member) (t : Ticket) (d : HandedBack)
    → Ok t ≡ begin_result m letter body room → Err d ≡ members_result t members
    → build_verdict m letter body members room ≡ Err d.refusal
too_many m letter body room members t d e w =
    let new = new_ticket body in
    let p = ticket_passed (begin_verdict m letter body room) t new e in
    let q = answer_back (leb (length members) (missing_members t)) (advanced (length members) t) (advanced (missing_members t) t) d w in
    let all : missing_members t ≡ get_or body 0 0 = ap missing_members p.1 ∙ omega arith in
    let many : leb (length members) (get_or body 0 0) ≡ false = ap (leb (length members)) (sym all) ∙ q.0 in
    let err : TicketRefusal → TicketVerdict = λ x. Err x in
    ap (λ (x : TicketVerdict). and_verdict x (count_verdict body members)) p.0
    ∙ ap (λ b. checked b AllGiven (checked (leb (get_or body 0 0) (length members)) MembersMissing (Ok tt))) many ∙ sym (ap err q.1)

-- enough, or too few: Close decides
pub closed : (m : Meaning) (letter : ℕ) (body mem after : List ℕ) (members : List Member) (t u : Ticket)
    → Ok t ≡ begin_result m letter body (length mem) → Ok u ≡ members_result t members → length after ≡ length mem
    → after ≡ written 0 (built_bytes letter body (take (get_or body 0 0) members)) mem
    → (close_verdict u (length after) ≡ build_verdict m letter body members (length mem))
    × (build_verdict m letter body members (length mem) ≡ Ok tt → row_in u after ≡ built_bytes letter body members)
closed m letter body mem after members t u e g same w =
    let n = get_or body 0 0 in
    let k = length members in
    let new = new_ticket body in
    let p = ticket_passed (begin_verdict m letter body (length mem)) t new e in
    let room = begin_room m letter body (length mem) p.0 in
    let q = answer_full (leb k (missing_members t)) (advanced k t) u (record { ticket = advanced (missing_members t) t; refusal = AllGiven }) g in
    let few : k ≤ missing_members t = leb-true k (missing_members t) q.0 in
    let all : missing_members t ≡ n = ap missing_members p.1 ∙ omega arith in
    let whole : u ≡ advanced k new = q.1 ∙ ap (advanced k) p.1 in
    let fits : leb k n ≡ true = le-leb k n (omega arith) in
    let open-room : leb (row_length u) (length after) ≡ true = le-leb (row_length u) (length after) (omega (arith, ap row_length whole, room, same)) in
    let last : TicketVerdict = checked (leb n k) MembersMissing (Ok tt) in
    let built : build_verdict m letter body members (length mem) ≡ last =
    ap (λ (x : TicketVerdict). and_verdict x (count_verdict body members)) p.0 ∙ ap (λ b. checked b AllGiven last) fits in
    let count : u.count ≡ n = ap (λ (x : Ticket). x.count) whole in
    let given : u.given ≡ k = ap (λ (x : Ticket). x.given) whole ∙ omega arith in (
      ap (λ b. checked b ShortMemory (checked (leb u.count u.given) MembersMissing (Ok tt))) open-room
          ∙ ap₂ (λ x y. checked (leb x y) MembersMissing (Ok tt)) count given ∙ sym built,
      (λ ok.
          let enough : n ≤ k = leb-true n k (checked_passed (leb n k) MembersMissing (Ok tt) (sym built ∙ ok)).0 in
          let bytes : List ℕ = built_bytes letter body members in
          let long : length bytes ≡ row_length u = omega (arith, length-append body (written_members members), members_length members, ap row_length whole) in
          ap (take (row_length u)) (w ∙ ap (λ (x : List Member). written 0 (built_bytes letter body x) mem) (take_all n members (omega arith)))
          ∙ read_front mem bytes (row_length u) long (omega (arith, ap row_length whole, room))),
    )

-- ---- no step before Post refuses as Post does

own_checked : (b : Bool) (f : TicketRefusal) (next : TicketVerdict) → own_verdict (Err f) ≡ Err f → own_verdict next ≡ next → own_verdict (checked b f next) ≡ checked b f next
own_checked true f next e g = g
own_checked false f next e g = e

own_and : (v w : TicketVerdict) → own_verdict v ≡ v → own_verdict w ≡ w → own_verdict (and_verdict v w) ≡ and_verdict v w
own_and (Ok tt) w e g = g
own_and (Err f) w e g = e

own_build : (m : Meaning) (letter : ℕ) (body : List ℕ) (members : List Member) (room : ℕ)
    → own_verdict (build_verdict m letter body members room) ≡ build_verdict m letter body members room
own_build m letter body members room =
    let n = get_or body 0 0 in
    let k = length members in
    let fits : TicketVerdict = checked (row_fits (new_ticket body) room) ShortMemory (Ok tt) in
    let long : TicketVerdict = checked (eqb (length body) (m.body_length letter)) WrongLength fits in
    let many : TicketVerdict = checked (leb n k) MembersMissing (Ok tt) in
    own_and (begin_verdict m letter body room) (count_verdict body members)
    (own_checked (m.known letter) UnknownLetter (checked (counted (letter ∷ body)) BadCount long) refl
    (own_checked (counted (letter ∷ body)) BadCount long refl
    (own_checked (eqb (length body) (m.body_length letter)) WrongLength fits refl (own_checked (row_fits (new_ticket body) room) ShortMemory (Ok tt) refl refl))))
    (own_checked (leb k n) AllGiven many refl (own_checked (leb n k) MembersMissing (Ok tt) refl refl))

own_close : (t : Ticket) (room : ℕ) → own_verdict (close_verdict t room) ≡ close_verdict t room
own_close t room =
    own_checked (row_fits t room) ShortMemory (checked (leb t.count t.given) MembersMissing (Ok tt)) refl (own_checked (leb t.count t.given) MembersMissing (Ok tt) refl refl)

-- ---- the answer of Close as an answer to the whole row

abbrev pub as_build : Result Unit CloseRefusal → Result Unit TicketRefusal
as_build (Ok x) = Ok x
as_build (Err cause) = Err (refusal_of cause)

own_back : (r : Result Unit CloseRefusal) (v : TicketVerdict) (t : Ticket) → handed_back r ≡ to_hand_back v t → own_verdict v ≡ v → own_verdict (as_build r) ≡ v
own_back (Ok x) (Ok tt) t e o = refl
own_back (Ok x) (Err f) t e o = cc
own_back (Err (StillOpen d)) (Ok tt) t e o = cc
own_back (Err (StillOpen d)) (Err f) t e o = let same : d ≡ record { ticket = t; refusal = f } = cc in ap (λ (x : HandedBack). own_verdict (Err x.refusal)) same ∙ o
own_back (Err (Post p)) (Ok tt) t e o = refl
own_back (Err (Post p)) (Err f) t e o = cc

answer_same : (r : Result Unit CloseRefusal) → close_answer r ≡ build_answer (as_build r)
answer_same (Ok x) = refl
answer_same (Err (StillOpen d)) = refl
answer_same (Err (Post p)) = refl

-- ---- what `build` ensures

module _ {B S : Type 0} {b : bank.Ghosts B} {s : store.Ghosts S} (m : Meaning) (letter : ℕ) (body mem : List ℕ) (members : List Member) (t u : Table B S b s) where
  -- r was returned for the whole row, with the memory and the table u afterwards
  pub record Built (r : Result Unit TicketRefusal) (after : List ℕ) : Type 0 where
    pub value : own_verdict r ≡ build_verdict m letter body members (length mem)
    pub does : Posts (build_verdict m letter body members (length mem)) t (built_bytes letter body members) (build_answer r) u
    pub history : PostExtends (build_verdict m letter body members (length mem)) t (built_bytes letter body members) (build_answer r) u
    pub memory : after ≡ build_memory m letter body members mem

  -- refused before Close
  pub built_not : (r : Result Unit TicketRefusal) (after : List ℕ) (f : TicketRefusal) → u ≡ t → r ≡ Err f
      → build_verdict m letter body members (length mem) ≡ Err f → after ≡ build_memory m letter body members mem → Built r after
  built_not r after f same e v w =
      let s = stays t u (build_answer r) (build_verdict m letter body members (length mem)) f (built_bytes letter body members) v same in
      record { value = ap own_verdict (e ∙ sym v) ∙ own_build m letter body members (length mem); does = s.0; history = s.1; memory = w }

  -- after Close
  pub built_by : (begun after : List ℕ) (ticket given : Ticket) (r : Result Unit CloseRefusal) (s : Result Unit TicketRefusal) → s ≡ as_build r
      → Ok ticket ≡ begin_result m letter body (length mem) → begun ≡ begin_memory m letter body mem
      → Ok given ≡ members_result ticket members → after ≡ members_memory ticket members begun → length after ≡ length mem
      → handed_back r ≡ to_hand_back (close_verdict given (length after)) given
      → Posts (close_verdict given (length after)) t (row_in given after) (close_answer r) u
      → PostExtends (close_verdict given (length after)) t (row_in given after) (close_answer r) u
      → Built s after
  built_by begun after ticket given r s e b w g x same back does history =
      let f = filled m letter body mem begun after members ticket b w x in
      let c = closed m letter body mem after members ticket given b g same f.1 in
      let v = close_verdict given (length after) in
      let a : close_answer r ≡ build_answer s = answer_same r ∙ ap build_answer (sym e) in
      let bytes = built_bytes letter body members in
      let d : Posts v t (row_in given after) (build_answer s) u = subst (λ (y : Answer). Posts v t (row_in given after) y u) a does in
      let l : PostExtends v t (row_in given after) (build_answer s) u = subst (λ (y : Answer). PostExtends v t (row_in given after) y u) a history in
      record {
        value = ap own_verdict e ∙ own_back r v given back (own_close given (length after)) ∙ c.0;
        does = posts_same t u (build_answer s) v (build_verdict m letter body members (length mem)) (row_in given after) bytes c.0 c.1 d;
        history = extends_same t u (build_answer s) v (build_verdict m letter body members (length mem)) (row_in given after) bytes c.0 c.1 l;
        memory = f.0;
      }
