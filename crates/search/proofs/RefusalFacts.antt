-- A call is refused under the smallest number that fits.
use Rattle.std.proofs.Common.{◌≡◌, ℕ, ◌<◌, ◌≤◌, Bool, true, false, ◌&&◌, eqb, ◌↔◌, List, [], ◌∷◌, refl, ap, subst, inl, inr, arith}
use Rattle.std.proofs.lemmas.Bool.{both_ways, ne_eqb, eq-eqb, or_from, or_left, or_right, and_from, and_left, and_right, cases_order}
use Rattle.rows.specs.Rows.{Meaning}
use Rattle.rows.specs.Reasons.{Judgement, judge}
use Rattle.search.specs.Calls.{TableData, Call, reasons, judged}
use Rattle.search.specs.Results.{reason_fits}
use Rattle.search.specs.Calls.Call.{declare, post, solve, read, wipe}
use Rattle.rows.specs.Reasons.Judgement.{passes, refused_under}

-- the numbers ascend, from above b
abbrev Above : ℕ → List (ℕ × Bool) → Type 0
Above b [] = Unit {0}
Above b ((k, f) ∷ others) = (b < k) × Above k others

ascending : (m : Meaning) (t : TableData) (c : Call) → Above 0 (reasons m t c)
ascending m t (declare s) = omega arith
ascending m t (post bs) = omega arith
ascending m t (solve b) = omega arith
ascending m t (read b) = omega arith
ascending m t wipe = tt

none_below : (rs : List (ℕ × Bool)) (b k : ℕ) → Above b rs → k ≤ b → reason_fits k rs ≡ false
none_below [] b k a l = refl
none_below ((n, f) ∷ rs) b k a l =
    or_from (eqb k n && f) (reason_fits k rs) (and_left (eqb k n) f (ne_eqb k n (λ e. omega (arith, a.0)))) (none_below rs n k a.1 (omega (arith, a.0)))

-- what a judgement says of the numbers that fit
abbrev Smallest : List (ℕ × Bool) → Judgement → Type 0
Smallest rs passes = (k : ℕ) → reason_fits k rs ≡ false
Smallest rs (refused_under n) = (reason_fits n rs ≡ true) × ((k : ℕ) → k < n → reason_fits k rs ≡ false)

smallest_more : (n : ℕ) (rs : List (ℕ × Bool)) (j : Judgement) → Smallest rs j → Smallest ((n, false) ∷ rs) j
smallest_more n rs passes h = λ k. or_from (eqb k n && false) (reason_fits k rs) (and_right (eqb k n) false refl) (h k)
smallest_more n rs (refused_under i) h = (
  or_right (eqb i n && false) (reason_fits i rs) h.0,
  (λ k l. or_from (eqb k n && false) (reason_fits k rs) (and_right (eqb k n) false refl) (h.1 k l)),
)

smallest : (rs : List (ℕ × Bool)) (b : ℕ) → Above b rs → Smallest rs (judge rs)
smallest [] b a = λ k. refl
smallest ((n, true) ∷ rs) b a = (
  or_left (eqb n n && true) (reason_fits n rs) (and_from (eqb n n) true (eq-eqb n n refl) refl),
  (λ k l. or_from (eqb k n && true) (reason_fits k rs) (and_left (eqb k n) true (ne_eqb k n (λ e. omega arith))) (none_below rs n k a.1 (omega arith))),
)
smallest ((n, false) ∷ rs) b a = smallest_more n rs (judge rs) (smallest rs n a.1)

-- and only one judgement says it
smallest_one : (rs : List (ℕ × Bool)) (i j : Judgement) → Smallest rs i → Smallest rs j → i ≡ j
smallest_one rs passes passes a b = refl
smallest_one rs passes (refused_under n) a b = absurd (both_ways (reason_fits n rs) (a n) b.0)
smallest_one rs (refused_under n) passes a b = absurd (both_ways (reason_fits n rs) (b n) a.0)
smallest_one rs (refused_under n) (refused_under k) a b =
    elim (cases_order n k) [
      | inl e ↦ ap refused_under e
      | inr h ↦ elim h [
        | inl l ↦ absurd (both_ways (reason_fits n rs) (b.1 n l) a.0)
        | inr l ↦ absurd (both_ways (reason_fits k rs) (a.1 k l) b.0)
      ]
    ]

pub refusals_smallest : (m : Meaning) (t : TableData) (c : Call)
    → ((n : ℕ) → (judged m t c ≡ refused_under n) ↔ ((reason_fits n (reasons m t c) ≡ true) × ((k : ℕ) → k < n → reason_fits k (reasons m t c) ≡ false)))
    × ((judged m t c ≡ passes) ↔ ((k : ℕ) → reason_fits k (reasons m t c) ≡ false))
refusals_smallest m t c =
    let rs = reasons m t c in
    let h = smallest rs 0 (ascending m t c) in (
      (λ n. ((λ e. subst (Smallest rs) e h), (λ x. smallest_one rs (judge rs) (refused_under n) h x))),
      ((λ e. subst (Smallest rs) e h), (λ x. smallest_one rs (judge rs) passes h x)),
    )
