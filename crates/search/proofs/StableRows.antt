-- Rows whose turns leave the sets as they are need no turn.
use Rattle.std.proofs.Common.{◌≡◌, ℕ, zero, suc, ◌+◌, ◌<◌, ◌≤◌, Bool, true, false, Option, Some, None, is_some, IfSome, List, [], ◌∷◌, length, get_or, drop, sym, refl, ap, ◌∙◌, subst, arith}
use Rattle.std.specs.Prelude.{MatchOption}
use Rattle.std.proofs.lemmas.List.{drop_more, at_drop_all}
use Rattle.std.proofs.lemmas.Bool.{not-false}
use Rattle.rows.specs.declared.row.Row.{Row}
use Rattle.rows.specs.Rows.{RowData, Meaning}
use Rattle.rows.specs.Views.{row_of, rows_of}
use Rattle.rows.specs.Laws.{Laws, Accepted}
use Rattle.sets.specs.Placings.{same, changed, some_empty}
use Rattle.sets.proofs.Lists.{same_self, same_is}
use Rattle.rows.specs.Placed.{AllAccepted, Ready}
use Rattle.search.specs.Propagation.{Round, round, round_from}
use Rattle.search.specs.Results.{Stable, RoundDone}
use Rattle.search.proofs.Scans.{Turned, round_none, round_stop}
use Rattle.search.proofs.PropagationFacts.{idle_is, round_ready}

-- such rows change nothing in what is left of a round
stable_round : (m : Meaning) (seen : Bool) (rows : List RowData) (s : List ℕ) → Stable m rows s → round_from m seen rows s ≡ record { sets = s; again = seen }
stable_round m seen [] s h = refl
stable_round m seen (r ∷ rows) s h =
    idle_is m seen r rows s h.0 (ap (λ (x : List ℕ). changed x s) h.0 ∙ ap (λ (b : Bool). elim b [ true ↦ false | false ↦ true ]) (same_self s))
    ∙ stable_round m seen rows s h.1

-- Where the turns are at row i of a round that ends before `end`: as long as none has changed the sets, the rows from `quiet` on leave them as they are; and where one has, the
-- last such before row k, those from k on leave them so if those from i on do.
abbrev pub Going : Meaning → List Row → ℕ → ℕ → List ℕ → Option ℕ → ℕ → Type 0
Going m rows stable i s due end =
    MatchOption due
    ((end ≡ stable) × Stable m (rows_of (drop stable rows)) s)
    (λ k. (end ≡ length rows) × (Stable m (rows_of (drop i rows)) s → Stable m (rows_of (drop k rows)) s))

module _ (m : Meaning) (rows : List Row) (stable : ℕ) where
  -- a turn that leaves the sets as they are
  pub going_idle : (i : ℕ) (r : Row) (s t : List ℕ) (c : Bool) (due : Option ℕ) (end : ℕ) → Turned m rows i r s t c → c ≡ false → Going m rows stable i s due end
      → Going m rows stable (i + 1) t due end
  going_idle i r s t c None end w e h =
      let same_sets : t ≡ s = same_is t s (not-false (same t s) (sym w.paired ∙ e)) in
      (h.0, subst (Stable m (rows_of (drop stable rows))) (sym same_sets) h.1)
  going_idle i r s t c (Some k) end w e h =
      let same_sets : t ≡ s = same_is t s (not-false (same t s) (sym w.paired ∙ e)) in
      let here : m.turn (row_of r) s ≡ s = sym w.left ∙ same_sets in (
        h.0,
        λ later.
            subst (Stable m (rows_of (drop k rows))) (sym same_sets)
            (h.1
            (subst (λ l. Stable m (rows_of l) s) (sym (drop_more rows i r w.inside ∙ ap (λ x. x ∷ drop (i + 1) rows) (sym w.row_is)))
            (here, subst (Stable m (rows_of (drop (i + 1) rows))) same_sets later))),
      )

  -- where no row is left
  pub going_over : (i : ℕ) (s t : List ℕ) (due : Option ℕ) (end : ℕ) → Going m rows stable i t due end → length rows ≤ i
      → round_from m (is_some due) (rows_of (drop i rows)) t ≡ round m (rows_of rows) s → RoundDone m rows s due t
  going_over i s t due end h past e =
      let is : record { sets = t; again = is_some due } ≡ round m (rows_of rows) s = sym (round_none m (is_some due) rows i t past) ∙ e in
      record { after = ap (λ (x : Round). x.sets) is; value = ap (λ (x : Round). x.again) is; rest = go due h }
    where
      go : (due : Option ℕ) → Going m rows stable i t due end → IfSome due (λ k. Stable m (rows_of (drop k rows)) t)
      go None h = tt
      go (Some k) h = h.1 (subst (λ l. Stable m (rows_of l) t) (sym (at_drop_all (λ l. l) rows i past)) tt)

  -- what a round comes to that ends at row i
  pub going_ends : (i : ℕ) (s t : List ℕ) (due : Option ℕ) (end : ℕ) → Going m rows stable i t due end → i ≡ end
      → round_from m (is_some due) (rows_of (drop i rows)) t ≡ round m (rows_of rows) s → RoundDone m rows s due t
  going_ends i s t None end h l e =
      let still : Stable m (rows_of (drop i rows)) t = subst (λ n. Stable m (rows_of (drop n rows)) t) (sym (l ∙ h.0)) h.1 in
      let is : record { sets = t; again = false } ≡ round m (rows_of rows) s = sym (stable_round m false (rows_of (drop i rows)) t still) ∙ e in
      record { after = ap (λ (x : Round). x.sets) is; value = ap (λ (x : Round). x.again) is; rest = tt }
  going_ends i s t (Some k) end h l e =
      going_over i s t (Some k) end h (omega (arith, l, h.0)) e

  -- where a turn empties a set
  pub going_stops : (i : ℕ) (r : Row) (s u t : List ℕ) (due : Option ℕ) → Turned m rows i r u t true → some_empty t ≡ true
      → round_from m (is_some due) (rows_of (drop i rows)) u ≡ round m (rows_of rows) s → RoundDone m rows s None t
  going_stops i r s u t due w z e =
      let is : record { sets = t; again = false } ≡ round m (rows_of rows) s = sym (round_stop m (is_some due) rows i r u t true w refl z) ∙ e in
      record { after = ap (λ (x : Round). x.sets) is; value = ap (λ (x : Round). x.again) is; rest = tt }

-- rows and sets are ready after a round that has another after it
pub due_ready : (m : Meaning) → Laws m → (rows : List Row) (s t : List ℕ) (k : ℕ) → Ready m (rows_of rows) s → RoundDone m rows s (Some k) t → Ready m (rows_of rows) t
due_ready m L rows s t k h d = subst (Ready m (rows_of rows)) (sym d.after) (round_ready m L (rows_of rows) s h (sym d.value))

-- the row at i is accepted
pub accepted_row : (m : Meaning) (rows : List Row) (n i : ℕ) (r : Row) → AllAccepted m (rows_of rows) n → i < length rows → r ≡ get_or rows i r → Accepted m (row_of r) n
accepted_row m [] n i r a l e = absurd (omega arith)
accepted_row m (x ∷ rows) n zero r a l e = subst (λ (y : Row). Accepted m (row_of y) n) (sym e) a.0
accepted_row m (x ∷ rows) n (suc i) r a l e = accepted_row m rows n i r a.1 (omega arith) e
