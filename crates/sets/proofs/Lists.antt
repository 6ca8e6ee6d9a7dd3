-- Lists of numbers that are the same, and the values of fixed sets.
use Rattle.std.proofs.Common.{◌≡◌, ℕ, ◌<◌, true, false, eqb, List, [], ◌∷◌, length, get_or, refl, ap, ◌∙◌, ap₂}
use lib.ListN.{length-map}
use Rattle.std.proofs.lemmas.List.{get_or-map}
use Rattle.std.proofs.lemmas.Bool.{both_ways, and_parts, and_from, eqb-true, eq-eqb}
use Rattle.sets.specs.Sets.{has, least}
use Rattle.sets.specs.Placings.{same, values, Proper, Within}
use Rattle.sets.proofs.Membership.{has_least}

pub same_self : (xs : List ℕ) → same xs xs ≡ true
same_self [] = refl
same_self (x ∷ xs) = and_from (eqb x x) (same xs xs) (eq-eqb x x refl) (same_self xs)

pub same_is : (xs ys : List ℕ) → same xs ys ≡ true → xs ≡ ys
same_is [] [] e = refl
same_is [] (y ∷ ys) e = absurd (both_ways false refl e)
same_is (x ∷ xs) [] e = absurd (both_ways false refl e)
same_is (x ∷ xs) (y ∷ ys) e =
    let p = and_parts (eqb x y) (same xs ys) e in
    ap₂ {C = List ℕ} (λ (a : ℕ) (b : List ℕ). a ∷ b) (eqb-true x y p.0) (same_is xs ys p.1)

-- the value of the set at i
pub value_place : (s : List ℕ) (i : ℕ) → i < length s → get_or (values s) i 0 ≡ least (get_or s i 0)
value_place s i l = get_or-map least s i 0 0 l

-- the least values of sets that are not empty are within them
pub values_within : (s : List ℕ) → Proper s → Within (values s) s
values_within s h = record {
  long = length-map s least;
  each = λ i l. ap (has (get_or s i 0)) (value_place s i l) ∙ has_least (get_or s i 0) (h i l).0 (h i l).1;
}
