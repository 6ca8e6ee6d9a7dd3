-- The laws of membership, gathered.
use Rattle.std.proofs.Common.{◌≡◌, ℕ, suc, ◌-◌, ◌^◌, ◌<◌, ◌≤◌, Bool, true, false, not, ◌&&◌, eqb, ltb, ◌⊎◌, sym, refl, ap, ◌∙◌, inl, inr, arith}
use lib.Count.{ones}
use Rattle.std.proofs.lemmas.Bool.{lt-ltb, le-ltb, ne_eqb, eq-eqb, cases_order, and_right, both_ways, cases_Bool}
use Rattle.sets.specs.Sets.{has, least, only}
use Rattle.sets.specs.Laws.{SetLaws}
use Rattle.sets.proofs.Membership as m

-- the members of s without its least are those above it
above : (s w : ℕ) → s < 2 ^ 64 → 0 < s → has (s - only (least s)) w ≡ (has s w && ltb (least s) w)
above s w h p = m.has_less s (least s) w (m.has_least s p h) ∙ elim (cases_order w (least s)) [
  | inl e ↦ and_right (has s w) (not (eqb w (least s))) (ap not (eq-eqb w (least s) e)) ∙ sym (and_right (has s w) (ltb (least s) w) (le-ltb (least s) w (omega arith)))
  | inr (inl l) ↦ not_there (cases_Bool (has s w)) l
  | inr (inr l) ↦ ap (λ (b : Bool). has s w && b) (ap not (ne_eqb w (least s) (λ e. omega arith)) ∙ sym (lt-ltb (least s) w l))
]
  where
    both_false : (b c d : Bool) → b ≡ false → (b && c) ≡ (b && d)
    both_false true c d e = absurd (both_ways true e refl)
    both_false false c d e = refl

    not_there : (has s w ≡ true) ⊎ (has s w ≡ false) → w < least s → (has s w && not (eqb w (least s))) ≡ (has s w && ltb (least s) w)
    not_there (inl e) l = absurd (below (m.least_first s w h e))
      where
        below : least s ≤ w → ⊥
        below k = omega arith
    not_there (inr e) l = both_false (has s w) (not (eqb w (least s))) (ltb (least s) w) e

pub set_laws : SetLaws
set_laws = record {
  same_members = m.same_sets 64;
  members_below = m.has_below 64;
  at_most = m.ones_all;
  no_member = m.none_zero 64;
  least_member = λ s h p. m.has_least s p h;
  least_first = m.least_first;
  greatest_member = λ s h p. m.has_greatest s p h;
  greatest_last = m.greatest_last;
  one_fixed = m.one_fixed;
  fixed_least = m.fixed_member;
  only_member = m.has_only;
  above_least = above;
  one_fewer = λ s v h e. m.ones_without s v h e ∙ ap (λ (x : ℕ). suc (ones x)) (m.less_only s v h e);
  part_fewer = m.ones_fewer 64;
  mask_members = m.has_mask 64;
  sift_members = m.has_sift;
}
