-- The bare store holds nothing and has no space.
use Rattle.std.specs.Prelude.{◌≡◌, ℕ, zero, suc, List, [], length, false, refl}
use Rattle.std.proofs.Common.{ltb, leb, arith}
use Rattle.std.proofs.lemmas.Bool.{and_right, lt-leb}
use Rattle.stores.specs.Stores.{View, Keeps, fits_space}
use Rattle.stores.specs.Behaviours.{Behaviour}
use Rattle.stores.specs.declared.store.Stored.{Stored}
use Rattle.stores.specs.declared.store.Stored.TheVariants.{Kept, Lost}

abbrev pub nothing : View
nothing = record { held = []; space = 0 }

-- every key is lost
abbrev pub bare_keeps : Unit {0} → List ℕ → Stored → Unit {0} → Type 0
bare_keeps s k a t = a ≡ Lost

pub never_fits : (n : ℕ) → fits_space n 0 ≡ false
never_fits zero = refl
never_fits (suc n) = and_right (ltb 0 (suc n)) (leb (suc n) 0) (lt-leb (suc n) 0 (omega arith))

pub bare_keeps_lawfully : (s t : Unit {0}) (k : List ℕ) (a : Stored) → bare_keeps s k a t
    → Keeps nothing k a nothing
bare_keeps_lawfully s t k Lost h =
    Keeps.does_not_fit nothing refl (never_fits (length k)) (λ x e. absurd cc) (λ e. refl) (λ e. refl)
bare_keeps_lawfully s t k Kept h = absurd cc

-- it has one state
abbrev pub bare : Behaviour
bare = record {
  State = Unit {0};
  view = λ _. nothing;
  empties = λ s t. Unit {0};
  keeps = bare_keeps;
  empties_lawfully = λ s t h. refl;
  keeps_lawfully = bare_keeps_lawfully;
}
