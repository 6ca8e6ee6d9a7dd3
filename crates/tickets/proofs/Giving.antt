-- Members given one after the other.
use Rattle.std.proofs.Common.{◌≡◌, ℕ, ◌+◌, ◌*◌, ◌/◌, ◌%◌, ◌<◌, ◌≤◌, Bool, true, false, cond, ltb, leb, List, [], ◌∷◌, length, get_or, take, ℤ, is_ok, Ok, Err, Result, sym, refl, ap, ◌∙◌, ap₂, add-zero, add_assoc, arith, w16, of_z}
use Rattle.std.proofs.lemmas.Bool.{ltb-true, ltb-false, le-leb, lt-leb}
use Rattle.std.proofs.lemmas.List.{take_more, take_all, length-take-le}
use Rattle.rows.specs.declared.member.Member.{Member}
use Rattle.rows.specs.Reading.{checked}
use Rattle.rows.specs.Written.{written}
use Rattle.rows.specs.WrittenRows.{written_member, written_members}
use Rattle.rows.proofs.Places.{written_none}
use Rattle.rows.proofs.RowBytes.{members_length}
use Rattle.tickets.specs.declared.refusal.TicketRefusal.{TicketRefusal}
use Rattle.tickets.specs.declared.refusal.TicketRefusal.TheVariants.{AllGiven, ShortMemory}
use Rattle.tickets.specs.declared.ticket.Ticket.{Ticket}
use Rattle.tickets.specs.declared.ticket.HandedBack.{HandedBack}
use Rattle.tickets.specs.Building.{TicketVerdict, row_length, next_place, advanced, advanced_or_back, member_verdict, member_result, member_memory}
use Rattle.tickets.specs.Whole.{missing_members, members_result, members_memory}
use Rattle.tickets.proofs.Writings.{written_more, members_push}

-- ---- one member

given_passed : (v : TicketVerdict) (t u : Ticket) → Ok u ≡ advanced_or_back v t → (v ≡ Ok tt) × (u ≡ advanced 1 t)
given_passed (Ok tt) t u e = (refl, cc)
given_passed (Err refusal) t u e = (cc, cc)

given_back : (v : TicketVerdict) (t : Ticket) (d : HandedBack) → Err d ≡ advanced_or_back v t → (f : TicketRefusal) × (v ≡ Err f) × (d ≡ record { ticket = t; refusal = f })
given_back (Ok tt) t d e = (d.refusal, cc, cc)
given_back (Err f) t d e = (f, refl, cc)

-- in memory that is long enough, the count decides
member_decided : (t : Ticket) (room : ℕ) → row_length t ≤ room → member_verdict t room ≡ checked (ltb t.given t.count) AllGiven (Ok tt)
member_decided t room h = ap (λ b. checked b ShortMemory (checked (ltb t.given t.count) AllGiven (Ok tt))) (le-leb (row_length t) room h)

count_passed : (b : Bool) → checked {A = Unit} b AllGiven (Ok tt) ≡ Ok tt → b ≡ true
count_passed true e = refl
count_passed false e = cc

count_back : (b : Bool) (f : TicketRefusal) → checked {A = Unit} b AllGiven (Ok tt) ≡ Err f → (b ≡ false) × (f ≡ AllGiven)
count_back true f e = (cc, cc)
count_back false f e = (refl, cc)

-- ---- the loop

-- i of the members xs are given, from the ticket t and the memory mem on
abbrev pub Given : Ticket → List ℕ → List Member → ℕ → Ticket → List ℕ → Type 0
Given t mem xs i current memory = (i ≤ missing_members t) × (current ≡ advanced i t) × (memory ≡ written (next_place t) (written_members (take i xs)) mem)

pub given_none : (t : Ticket) (mem : List ℕ) (xs : List Member) → Given t mem xs 0 t mem
given_none t mem xs =
    (omega arith, (λ i. record { head = t.head; count = t.count; given = sym (add-zero t.given) i }), sym (written_none (next_place t) mem))

pub given_more : (t current next : Ticket) (mem memory after : List ℕ) (xs : List Member) (i v : ℕ) (z : ℤ) (x : Member)
    → t.given ≤ t.count → row_length t ≤ length mem → length memory ≡ length mem → i < length xs → Given t mem xs i current memory
    → written_member (record { voice = v; argument = z }) ≡ written_member (get_or xs i x)
    → Ok next ≡ member_result current (length memory) → after ≡ member_memory current v z memory → Given t mem xs (i + 1) next after
given_more t current next mem memory after xs i v z x few room same h g m e w =
    let p = given_passed (member_verdict current (length memory)) current next e in
    let a : current.given ≡ t.given + i = ap (λ (y : Ticket). y.given) g.1 in
    let b : current.count ≡ t.count = ap (λ (y : Ticket). y.count) g.1 in
    let c : current.head ≡ t.head = ap (λ (y : Ticket). y.head) g.1 in
    let less : current.given < current.count =
    ltb-true current.given current.count (count_passed (ltb current.given current.count) (sym (member_decided current (length memory) (omega arith)) ∙ p.0)) in
    let old = written_members (take i xs) in
    let long : length old ≡ 4 * i = members_length (take i xs) ∙ ap (λ n. 4 * n) (length-take-le i xs (omega arith)) in (
      omega arith,
      p.1 ∙ ap (advanced 1) g.1 ∙ (λ j. record { head = t.head; count = t.count; given = add_assoc t.given i 1 j }),
      w ∙ ap (λ (y : TicketVerdict). cond (is_ok y) (written (next_place current) (written_member (record { voice = v; argument = z })) memory) memory) p.0
          ∙ ap₂ (λ (y y' : List ℕ). written (next_place current) y' y) g.2 m
          ∙ written_more mem old (written_member (get_or xs i x)) (next_place t) (next_place current) (omega arith)
          ∙ ap (λ (l : List ℕ). written (next_place t) l mem) (sym (members_push (take i xs) (get_or xs i x)) ∙ ap written_members (sym (take_more xs i x h))),
    )

-- all of them
pub given_all : (t current : Ticket) (mem memory : List ℕ) (xs : List Member) (i : ℕ) → i ≡ length xs → Given t mem xs i current memory
    → (Ok current ≡ members_result t xs) × (memory ≡ members_memory t xs mem)
given_all t current mem memory xs i h g =
    let k = missing_members t in
    let fits : leb (length xs) k ≡ true = le-leb (length xs) k (omega arith) in
    let ok : Ticket → Result Ticket HandedBack = λ x. Ok x in (
      ap ok (g.1 ∙ ap (λ n. advanced n t) h)
          ∙ sym (ap (λ b. cond b (Ok (advanced (length xs) t)) (Err (record { ticket = advanced k t; refusal = AllGiven }))) fits),
      g.2 ∙ ap (λ (l : List Member). written (next_place t) (written_members l) mem) (take_all i xs (omega arith) ∙ sym (take_all k xs (omega arith))),
    )

-- no more: the row is full
pub given_full : (t current : Ticket) (mem memory after : List ℕ) (xs : List Member) (i v : ℕ) (z : ℤ) (d : HandedBack)
    → t.given ≤ t.count → row_length t ≤ length mem → length memory ≡ length mem → i < length xs → Given t mem xs i current memory
    → Err d ≡ member_result current (length memory) → after ≡ member_memory current v z memory
    → (Err d ≡ members_result t xs) × (after ≡ members_memory t xs mem)
given_full t current mem memory after xs i v z d few room same h g e w =
    let k = missing_members t in
    let p = given_back (member_verdict current (length memory)) current d e in
    let a : current.given ≡ t.given + i = ap (λ (y : Ticket). y.given) g.1 in
    let b : current.count ≡ t.count = ap (λ (y : Ticket). y.count) g.1 in
    let c : current.head ≡ t.head = ap (λ (y : Ticket). y.head) g.1 in
    let q = count_back (ltb current.given current.count) p.0 (sym (member_decided current (length memory) (omega arith)) ∙ p.1) in
    let full : current.count ≤ current.given = ltb-false current.given current.count q.0 in
    let end : i ≡ k = omega arith in
    let many : leb (length xs) k ≡ false = lt-leb (length xs) k (omega arith) in
    let back : Ticket → TicketRefusal → Result Ticket HandedBack = λ y f. Err (record { ticket = y; refusal = f }) in
    let err : HandedBack → Result Ticket HandedBack = λ y. Err y in (
      ap err p.2 ∙ ap₂ back (g.1 ∙ ap (λ n. advanced n t) end) q.1
          ∙ sym (ap (λ y. cond y (Ok (advanced (length xs) t)) (Err (record { ticket = advanced k t; refusal = AllGiven }))) many),
      w ∙ ap (λ (y : TicketVerdict). cond (is_ok y) (written (next_place current) (written_member (record { voice = v; argument = z })) memory) memory) p.1
          ∙ g.2 ∙ ap (λ n. written (next_place t) (written_members (take n xs)) mem) end,
    )

-- the bytes of a member whose voice is given by its low byte
pub item_bytes : (x : Member) (v : ℕ) (z : ℤ) → v ≡ x.voice % 256 → z ≡ x.argument → written_member (record { voice = v; argument = z }) ≡ written_member x
item_bytes x v z p q =
    let e : v % 0x100 ≡ x.voice % 0x100 = omega arith in
    λ i. 0x4D ∷ e i ∷ of_z w16 (q i) % 0x100 ∷ of_z w16 (q i) / 0x100 ∷ []
