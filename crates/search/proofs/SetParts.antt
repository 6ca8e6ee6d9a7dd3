-- Parts of sets, and what is left of a set without its least value.
use Rattle.std.proofs.Common.{◌≡◌, ℕ, ◌+◌, ◌-◌, ◌<◌, true, not, eqb, ◌⊎◌, sym, ap, ◌∙◌, subst, inl, inr, arith}
use lib.Count.{ones}
use Rattle.std.proofs.lemmas.Bool.{eqb-true, eq-eqb, ne_eqb, cases_eq, both_ways, and_from, not_from_false}
use Rattle.sets.specs.Sets.{has, fixed, least, only}
use Rattle.sets.specs.Laws.{Word, Part}
use Rattle.sets.proofs.Membership.{has_none, has_only, has_least, has_less, above_least, has_below, ones_without, fixed_member, one_fixed, only_below, only_pos, fixed_part}

-- the empty set has no value
pub empty_has : (v : ℕ) → has 0 v ≡ true → ⊥
empty_has v h = both_ways (has 0 v) (has_none v) h

-- the set of one value
pub only_has : (x : ℕ) → has (only x) x ≡ true
only_has x = has_only x x ∙ eq-eqb x x (λ _. x)

pub only_is : (x v : ℕ) → has (only x) v ≡ true → v ≡ x
only_is x v h = eqb-true v x (sym (has_only x v) ∙ h)

pub only_bounds : (x : ℕ) → x < 64 → (0 < only x) × Word (only x)
only_bounds x h = (only_pos x, only_below x h)

-- z is the least value of s, and what is left without it
pub record Rest (s z : ℕ) : Type 0 where
  pub first : has s z ≡ true
  pub part : (w : ℕ) → has (s - only z) w ≡ true → (has s w ≡ true) × (z < w)
  pub whole : (w : ℕ) → has s w ≡ true → (w ≡ z) ⊎ (has (s - only z) w ≡ true)
  pub count : ones (s - only z) + 1 ≡ ones s

pub rest : (s : ℕ) → 0 < s → Word s → Rest s (least s)
rest s p b = record {
  first = here;
  part = λ w h. above_least s w p b h;
  whole = λ w h. elim (cases_eq w (least s)) [
    | inl e ↦ inl e
    | inr n ↦ inr (has_less s (least s) w here ∙ and_from (has s w) (not (eqb w (least s))) h (not_from_false (eqb w (least s)) (ne_eqb w (least s) n)))
  ];
  count = omega (arith, ones_without s (least s) b here);
}
  where
    here : has s (least s) ≡ true
    here = has_least s p b

-- two values of a fixed set are one
pub fixed_one : (s v w : ℕ) → Word s → fixed s ≡ true → has s v ≡ true → has s w ≡ true → v ≡ w
fixed_one s v w b f h k = fixed_member s v b f h ∙ sym (fixed_member s w b f k)

-- a set that is not empty and has no value but x is fixed
pub pinned : (s x : ℕ) → 0 < s → Word s → ((v : ℕ) → has s v ≡ true → v ≡ x) → fixed s ≡ true
pinned s x p b h =
    one_fixed s x b (subst (λ (y : ℕ). has s y ≡ true) (h (least s) (has_least s p b)) (has_least s p b)) h

-- what is left of a fixed set, if not empty, is fixed
pub part_fixed : (t s : ℕ) → Part t s → 0 < t → Word t → Word s → fixed s ≡ true → fixed t ≡ true
part_fixed t s h p a b f = ap fixed (fixed_part t s p a b f h) ∙ f

-- a value of a set is below 64
pub under : (s v : ℕ) → Word s → has s v ≡ true → v < 64
under s v b h = has_below 64 s v b h
