-- Propagation only takes values out, keeps every placing for which all rows hold, and ends where no turn changes anything.
use Rattle.std.proofs.Common.{◌≡◌, ℕ, zero, suc, ◌*◌, ◌<◌, Bool, true, false, ◌⊎◌, List, [], ◌∷◌, length, sym, refl, ap, ◌∙◌, subst, inl, inr, arith}
use Rattle.std.proofs.lemmas.Bool.{both_ways, and_parts, and_from, cases_Bool, cases_lt, not-true, not-false}
use Rattle.sets.specs.Placings.{same, changed, some_empty, all_fixed, values, Proper, Within, Narrower}
use Rattle.std.specs.List.{list_all}
use Rattle.rows.specs.Rows.{RowData, Meaning}
use Rattle.rows.specs.Laws.{Laws, Accepted}
use Rattle.search.specs.Propagation.{Round, round_from, round, rounds, propagated, size}
use Rattle.rows.specs.Placed.{AllAccepted, Ready, AllHold, Lawful}
use Rattle.search.specs.Results.{Stable, Propagates}
use Rattle.search.proofs.Boxes.{narrow_trans, narrow_refl, proper_narrow, proper_full, proper_words, size_le, size_same, size_most, within_narrow, values_only}
use Rattle.sets.proofs.Lists.{same_self, same_is, values_within}

-- t is s without values that matter
pub record Narrowed (m : Meaning) (rows : List RowData) (s t : List ℕ) : Type 0 where
  pub narrow : Narrower t s
  pub keeps : (p : List ℕ) → Within p s → AllHold m rows p → Within p t

-- ---- one turn of a round, by what it did

-- what follows a turn that left t, by whether it changed the sets and emptied one
after : Meaning → Bool → List RowData → List ℕ → Bool → Bool → Round
after m seen rows t c k = elim c [ false ↦ round_from m seen rows t | true ↦ elim k [ true ↦ record { sets = t; again = false } | false ↦ round_from m true rows t ] ]

turn_is : (m : Meaning) (seen : Bool) (r : RowData) (rows : List RowData) (s : List ℕ) (c k : Bool) → changed (m.turn r s) s ≡ c → some_empty (m.turn r s) ≡ k
    → round_from m seen (r ∷ rows) s ≡ after m seen rows (m.turn r s) c k
unfolding after
turn_is m seen r rows s c k e f =
    ap (λ (x : Bool). after m seen rows (m.turn r s) x (some_empty (m.turn r s))) e ∙ ap (after m seen rows (m.turn r s) c) f

pub idle_is : (m : Meaning) (seen : Bool) (r : RowData) (rows : List RowData) (s : List ℕ) → m.turn r s ≡ s → changed (m.turn r s) s ≡ false
    → round_from m seen (r ∷ rows) s ≡ round_from m seen rows s
unfolding after
idle_is m seen r rows s e c = turn_is m seen r rows s false (some_empty (m.turn r s)) c refl ∙ ap (round_from m seen rows) e

stops_is : (m : Meaning) (seen : Bool) (r : RowData) (rows : List RowData) (s : List ℕ) → changed (m.turn r s) s ≡ true → some_empty (m.turn r s) ≡ true
    → round_from m seen (r ∷ rows) s ≡ record { sets = m.turn r s; again = false }
unfolding after
stops_is m seen r rows s c k = turn_is m seen r rows s true true c k

goes_is : (m : Meaning) (seen : Bool) (r : RowData) (rows : List RowData) (s : List ℕ) → changed (m.turn r s) s ≡ true → some_empty (m.turn r s) ≡ false
    → round_from m seen (r ∷ rows) s ≡ round_from m true rows (m.turn r s)
unfolding after
goes_is m seen r rows s c k = turn_is m seen r rows s true false c k

rounds_is : (m : Meaning) (rows : List RowData) (k : ℕ) (s : List ℕ) (b : Bool) → (round m rows s).again ≡ b
    → rounds m rows (suc k) s ≡ elim b [ true ↦ rounds m rows k (round m rows s).sets | false ↦ (round m rows s).sets ]
rounds_is m rows k s b e =
    ap (λ (x : Bool). elim x as (λ (_ : Bool). List ℕ) [ true ↦ rounds m rows k (round m rows s).sets | false ↦ (round m rows s).sets ]) e

-- a part that is another list has fewer values
smaller : (t s : List ℕ) → Proper s → Narrower t s → changed t s ≡ true → size t < size s
smaller t s p n c =
    elim (cases_lt (size t) (size s)) [
      | inl h ↦ h
      | inr h ↦
          absurd (both_ways (same t s) (not-true (same t s) c) (subst (λ (x : List ℕ). same t x ≡ true) (size_same t s (proper_words s p) n h) (same_self t)))
    ]

-- What a round leaves of s. Where another is due, no set is empty and a value was taken out, here or before; where none is, a set is empty, or no turn
-- changed anything.
record Rounded (m : Meaning) (seen : Bool) (rows : List RowData) (s : List ℕ) (r : Round) : Type 0 where
  narrowed : Narrowed m rows s r.sets
  due : r.again ≡ true → Proper r.sets × ((seen ≡ true) ⊎ (size r.sets < size s))
  over : r.again ≡ false → (some_empty r.sets ≡ true) ⊎ ((seen ≡ false) × (r.sets ≡ s) × Stable m rows s)

module _ (m : Meaning) (L : Laws m) (n : ℕ) where
  accepted : (r : RowData) (s : List ℕ) → length s ≡ n → Accepted m r n → Accepted m r (length s)
  accepted r s e a = subst (Accepted m r) (sym e) a

  round_ok : (rows : List RowData) (seen : Bool) (s : List ℕ) → length s ≡ n → AllAccepted m rows n → Proper s → Rounded m seen rows s (round_from m seen rows s)
  round_ok [] seen s e o p =
      record { narrowed = record { narrow = narrow_refl s; keeps = λ q w h. w }; due = λ a. (p, inl a); over = λ a. inr (a, refl, tt) }
  round_ok (r ∷ rows) seen s e o p =
      let t = m.turn r s in
      let less = L.narrows r s (accepted r s e o.0) p in
      let kept : (q : List ℕ) → Within q s → AllHold m (r ∷ rows) q → Within q t =
      λ q w h. L.sound r s q (accepted r s e o.0) p w (and_parts (m.holds r q) (list_all (λ x. m.holds x q) rows) h).0 in
      elim (cases_Bool (changed t s)) [
        | inr c ↦
            let idle : t ≡ s = same_is t s (not-false (same t s) c) in
            let more = round_ok rows seen s e o.1 p in
            subst (Rounded m seen (r ∷ rows) s) (sym (idle_is m seen r rows s idle c))
            (record {
              narrowed = record {
                narrow = more.narrowed.narrow;
                keeps = λ q w h. more.narrowed.keeps q w (and_parts (m.holds r q) (list_all (λ x. m.holds x q) rows) h).1;
              };
              due = more.due;
              over = λ a. elim (more.over a) [ inl z ↦ inl z | inr z ↦ inr (z.0, z.1, (idle, z.2)) ];
            })
        | inl c ↦ elim (cases_Bool (some_empty t)) [
          | inl z ↦
              subst (Rounded m seen (r ∷ rows) s) (sym (stops_is m seen r rows s c z))
              (record { narrowed = record { narrow = less; keeps = kept }; due = λ a. absurd (both_ways false refl a); over = λ a. inl z })
          | inr z ↦
              let pr = proper_narrow t s less p z in
              let more = round_ok rows true t (less.long ∙ e) o.1 pr in
              let fewer = smaller t s p less c in
              subst (Rounded m seen (r ∷ rows) s) (sym (goes_is m seen r rows s c z))
              (record {
                narrowed = record {
                  narrow = narrow_trans (round_from m true rows t).sets t s more.narrowed.narrow less;
                  keeps = λ q w h. more.narrowed.keeps q (kept q w h) (and_parts (m.holds r q) (list_all (λ x. m.holds x q) rows) h).1;
                };
                due = λ a.
                    let le = size_le (round_from m true rows t).sets t (proper_words t pr) more.narrowed.narrow in
                    ((more.due a).0, inr (omega arith));
                over = λ a. elim (more.over a) [ inl y ↦ inl y | inr y ↦ absurd (both_ways true y.0 refl) ];
              })
        ]
      ]

  -- a round after which another is due takes a value out
  round_less : (rows : List RowData) (s : List ℕ) → length s ≡ n → AllAccepted m rows n → Proper s → (round m rows s).again ≡ true
      → Proper (round m rows s).sets × (size (round m rows s).sets < size s)
  round_less rows s e o p a =
      let d = (round_ok rows false s e o p).due a in
      (d.0, elim d.1 [ inl z ↦ absurd (both_ways false refl z) | inr z ↦ z ])

  -- where no turn changes anything and all is fixed, every row holds
  pub stable_holds : (rows : List RowData) (s : List ℕ) → length s ≡ n → AllAccepted m rows n → Proper s → Stable m rows s → all_fixed s ≡ true → AllHold m rows (values s)
  stable_holds [] s e o p still f = refl
  stable_holds (r ∷ rows) s e o p still f =
      and_from (m.holds r (values s)) (list_all (λ x. m.holds x (values s)) rows)
      (elim (cases_Bool (m.holds r (values s))) [
        | inl h ↦ h
        | inr h ↦
            absurd (both_ways (some_empty s) (proper_full s p)
            (subst (λ (x : List ℕ). some_empty x ≡ true) still.0 (L.checks r s (accepted r s e o.0) p f h)))
      ])
      (stable_holds rows s e o.1 p still.1 f)

  -- where propagation ends
  abbrev pub Ended : List RowData → List ℕ → List ℕ → Type 0
  Ended rows s t = Narrowed m rows s t × ((some_empty t ≡ true) ⊎ (Proper t × Stable m rows t))

  rounds_ok : (rows : List RowData) (k : ℕ) (s : List ℕ) → length s ≡ n → AllAccepted m rows n → Proper s → size s < k → Ended rows s (rounds m rows k s)
  rounds_ok rows zero s e o p l = absurd (omega arith)
  rounds_ok rows (suc k) s e o p l =
      let t = (round m rows s).sets in
      let here = round_ok rows false s e o p in
      elim (cases_Bool (round m rows s).again) [
        | inr a ↦
            subst (Ended rows s) (sym (rounds_is m rows k s false a)) (
              here.narrowed,
              elim (here.over a) [
                | inl z ↦ inl z
                | inr z ↦ inr (subst (λ (x : List ℕ). Proper x × Stable m rows x) (sym z.1) (p, z.2))
              ],
            )
        | inl a ↦
            let less = round_less rows s e o p a in
            let more = rounds_ok rows k t (here.narrowed.narrow.long ∙ e) o less.0 (omega (arith, less.1)) in
            subst (Ended rows s) (sym (rounds_is m rows k s true a)) (
              record {
                narrow = narrow_trans (rounds m rows k t) t s more.0.narrow here.narrowed.narrow;
                keeps = λ q w h. more.0.keeps q (here.narrowed.keeps q w h) h;
              },
              more.1,
            )
      ]

  pub propagated_ok : (rows : List RowData) (s : List ℕ) → length s ≡ n → AllAccepted m rows n → Proper s → Ended rows s (propagated m rows s)
  propagated_ok rows s e o p = rounds_ok rows (suc (64 * length s)) s e o p (omega (arith, size_most s (proper_words s p)))

  -- any two numbers of rounds that are above the number of values give the same
  rounds_enough : (rows : List RowData) (k j : ℕ) (s : List ℕ) → length s ≡ n → AllAccepted m rows n → Proper s → size s < k → size s < j → rounds m rows k s ≡ rounds m rows j s
  rounds_enough rows zero j s e o p l g = absurd (omega arith)
  rounds_enough rows (suc k) zero s e o p l g = absurd (omega arith)
  rounds_enough rows (suc k) (suc j) s e o p l g =
      let t = (round m rows s).sets in
      elim (cases_Bool (round m rows s).again) [
        | inr a ↦ rounds_is m rows k s false a ∙ sym (rounds_is m rows j s false a)
        | inl a ↦
            let less = round_less rows s e o p a in
            rounds_is m rows k s true a
            ∙ rounds_enough rows k j t ((round_ok rows false s e o p).narrowed.narrow.long ∙ e) o less.0 (omega (arith, less.1)) (omega (arith, less.1))
            ∙ sym (rounds_is m rows j s true a)
      ]

-- ---- rows and sets that are ready

-- after a turn that left no set empty
pub turn_ready : (m : Meaning) → Laws m → (rows : List RowData) (r : RowData) (s : List ℕ) → Ready m rows s → Accepted m r (length s) → some_empty (m.turn r s) ≡ false
    → Ready m rows (m.turn r s)
turn_ready m L rows r s h a e =
    let less = L.narrows r s a h.proper in
    record { accepted = subst (AllAccepted m rows) (sym less.long) h.accepted; proper = proper_narrow (m.turn r s) s less h.proper e }

-- and after a round that has another after it
pub round_ready : (m : Meaning) → Laws m → (rows : List RowData) (s : List ℕ) → Ready m rows s → (round m rows s).again ≡ true → Ready m rows (round m rows s).sets
round_ready m L rows s h e =
    let here = round_ok m L (length s) rows false s refl h.accepted h.proper in
    record { accepted = subst (AllAccepted m rows) (sym here.narrowed.narrow.long) h.accepted; proper = (here.due e).0 }

-- ---- the statements

pub propagation_sound : (m : Meaning) → Laws m → (rows : List RowData) (s : List ℕ) → AllAccepted m rows (length s) → Proper s
    → Propagates m rows s (propagated m rows s)
propagation_sound m L rows s o p =
    let ended = propagated_ok m L (length s) rows s refl o p in
    record {
      narrower = ended.0.narrow;
      keeps = ended.0.keeps;
      ends = λ z. elim ended.1 [ inl y ↦ absurd (both_ways (some_empty (propagated m rows s)) z y) | inr y ↦ y ];
      enough = λ k h. rounds_enough m L (length s) rows k (suc (64 * length s)) s refl o p h (omega (arith, size_most s (proper_words s p)));
    }

pub fixed_solves : (m : Meaning) → Laws m → (rows : List RowData) (s : List ℕ) → AllAccepted m rows (length s) → Proper s
    → some_empty (propagated m rows s) ≡ false → all_fixed (propagated m rows s) ≡ true
    → Lawful m s rows (values (propagated m rows s)) × ((q : List ℕ) → Lawful m s rows q → q ≡ values (propagated m rows s))
fixed_solves m L rows s o p z f =
    let b = propagated m rows s in
    let h = propagation_sound m L rows s o p in
    let (pr, still) = h.ends z in (
      record {
        within = within_narrow (values b) b s h.narrower (values_within b pr);
        holding = stable_holds m L (length s) rows b h.narrower.long o pr still f;
      },
      (λ q lw. values_only b q pr f (h.keeps q lw.within lw.holding)),
    )
