-- The laws of the loose kind.
use Rattle.std.specs.Prelude.{◌≡◌, ℕ, suc, ◌-◌, ◌<◌, ◌≤◌, Bool, true, false, cond, ◌||◌, List, [], ◌∷◌, ◌++◌, length, nat_eq, nat_lt, slice_set, refl}
use Rattle.std.proofs.Common.{sym, ap, ◌∙◌, subst, arith, lit≤, get_or}
use Rattle.std.proofs.lemmas.Bool.{and_from, both_ways, lt-ltb, ne_eqb}
use Rattle.std.proofs.lemmas.List.{get_or_append_left, length-append}
use Rattle.std.specs.List.{list_all}
use Rattle.sets.specs.Placings.{some_empty, values, Proper, Placing, Within, Narrower}
use Rattle.sets.proofs.Membership.{has_below}
use Rattle.sets.proofs.Lists.{values_within}
use Rattle.rows.specs.Rows.{alone, RowData}
use Rattle.rows.specs.Laws.{Laws, Accepted}
use Rattle.rows.specs.declared.trace.Trace.TheVariants.{Settled, Open}
use Rattle.rows.proofs.Members.{lettered_by}
use Rattle.rows.proofs.Cuts.{narrower_refl}
use Rattle.search.proofs.Boxes.{proper_full}
use Rattle.loose.specs.Loose.{unconstrained, loose}

some_there : (k : ℕ) (b : Bool) → 1 ≤ k → (nat_eq k 0 || b) ≡ b
some_there k b h = ap (λ x. x || b) (ne_eqb k 0 (λ e. omega (arith, e)))

-- an accepted row where no set is empty
pub constrained : (r : RowData) (s : List ℕ) (n : ℕ) → Accepted (alone loose) r n → Proper s → unconstrained r s ≡ false
constrained r s n a h = some_there (length r.members) (some_empty s) (omega (arith, a.shape.counted, a.shape.some_members)) ∙ proper_full s h

all_below : (p : List ℕ) → Placing p → list_all (λ v. nat_lt v 64) p ≡ true
all_below [] h = refl
all_below (x ∷ p) h = and_from (nat_lt x 64) (list_all (λ v. nat_lt v 64) p) (lt-ltb x 64 (h 0 (omega arith))) (all_below p (λ i l. h (suc i) (omega arith)))

placed : (p s : List ℕ) → Proper s → Within p s → Placing p
placed p s h w i l =
    let k : i < length s = omega (arith, w.long) in
    has_below 64 (get_or s i 0) (get_or p i 0) (h i k).1 (w.each i k)

front : (p q : List ℕ) → Placing (p ++ q) → Placing p
front p q h i l = subst (λ (x : ℕ). x < 64) (get_or_append_left p q 0 i l) (h i (omega (arith, length-append p q)))

proper_front : (s t : List ℕ) → Proper (s ++ t) → Proper s
proper_front s t h i l = subst (λ (x : ℕ). (0 < x) × (x < 18446744073709551616)) (get_or_append_left s t 0 i l) (h i (omega (arith, length-append s t)))

pub loose_lawful : Laws (alone loose)
loose_lawful = record {
  lettered = lettered_by loose refl (lit≤ tt) (lit≤ tt);
  narrows = λ r s a h. subst (λ t. Narrower t s) (sym (still r s (length s) a h)) (narrower_refl s);
  sound = λ r s p a h w e. subst (Within p) (sym (still r s (length s) a h)) w;
  checks = λ r s a h f e. absurd (both_ways (loose.holds r (values s)) e (holds_always r (values s) (placed (values s) s h (values_within s h))));
  projects = λ r s t p q a hs ht k e ws wt g. holds_always r p (placed p s hs ws) ∙ sym (holds_always r q (placed q t ht wt));
  stays = λ r n k a. record { shape = a.shape; yes = refl };
  holds_more = λ r p q a h. holds_always r (p ++ q) h ∙ sym (holds_always r p (front p q h));
  turn_more = λ r s t a h. still r (s ++ t) (length s) a h ∙ sym (ap (λ x. x ++ t) (still r s (length s) a (proper_front s t h)));
  trace_more = λ r s t a h. settled r (s ++ t) (length s) a h ∙ sym (settled r s (length s) a (proper_front s t h));
}
  where
    -- its turn leaves the sets as they are, its trace is settled, and it holds for every placing
    still : (r : RowData) (s : List ℕ) (n : ℕ) → Accepted (alone loose) r n → Proper s → loose.turn r s ≡ s
    still r s n a h = ap (λ b. cond b (slice_set s (length s - 1) 0) s) (constrained r s n a h)

    settled : (r : RowData) (s : List ℕ) (n : ℕ) → Accepted (alone loose) r n → Proper s → loose.trace r s ≡ Settled
    settled r s n a h = ap (λ b. cond b (Open (length s)) Settled) (constrained r s n a h)

    holds_always : (r : RowData) (p : List ℕ) → Placing p → loose.holds r p ≡ true
    holds_always r p h = all_below p h
