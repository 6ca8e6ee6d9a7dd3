-- Each row goes to the kind whose letter it has.
use Rattle.std.proofs.Common.{◌≡◌, ℕ, sym, refl, subst}
use Rattle.rows.specs.Rows.{RowData}
use Rattle.kinds.specs.Differing.{all_different}
use Rattle.kinds.specs.Sums.{linear}
use Rattle.kinds.specs.Literals.{clause}
use Rattle.kinds.specs.Entries.{element}
use Rattle.kinds.specs.FourKinds.{four_kinds, ByLetter}

-- what agrees on rows written with this letter agrees on each row that has it
agree_at : {A : Type 0} (f g : RowData → A) (l : ℕ)
    → ((r : RowData) → f (record r { letter = l }) ≡ g (record r { letter = l })) → (r : RowData) → r.letter ≡ l → f r ≡ g r
agree_at f g l same r e = subst (λ x. f (record r { letter = x }) ≡ g (record r { letter = x })) (sym e) (same r)

pub by_letter : ByLetter
by_letter = record {
  differing_rows = record {
    known = refl;
    body_length = refl;
    accepts = agree_at four_kinds.accepts all_different.accepts 0x41 (λ r. refl);
    holds = agree_at four_kinds.holds all_different.holds 0x41 (λ r. refl);
    turn = agree_at four_kinds.turn all_different.turn 0x41 (λ r. refl);
    trace = agree_at four_kinds.trace all_different.trace 0x41 (λ r. refl);
  };
  sum_rows = record {
    known = refl;
    body_length = refl;
    accepts = agree_at four_kinds.accepts linear.accepts 0x4C (λ r. refl);
    holds = agree_at four_kinds.holds linear.holds 0x4C (λ r. refl);
    turn = agree_at four_kinds.turn linear.turn 0x4C (λ r. refl);
    trace = agree_at four_kinds.trace linear.trace 0x4C (λ r. refl);
  };
  clause_rows = record {
    known = refl;
    body_length = refl;
    accepts = agree_at four_kinds.accepts clause.accepts 0x43 (λ r. refl);
    holds = agree_at four_kinds.holds clause.holds 0x43 (λ r. refl);
    turn = agree_at four_kinds.turn clause.turn 0x43 (λ r. refl);
    trace = agree_at four_kinds.trace clause.trace 0x43 (λ r. refl);
  };
  element_rows = record {
    known = refl;
    body_length = refl;
    accepts = agree_at four_kinds.accepts element.accepts 0x45 (λ r. refl);
    holds = agree_at four_kinds.holds element.holds 0x45 (λ r. refl);
    turn = agree_at four_kinds.turn element.turn 0x45 (λ r. refl);
    trace = agree_at four_kinds.trace element.trace 0x45 (λ r. refl);
  };
  letters = λ l. refl;
}
