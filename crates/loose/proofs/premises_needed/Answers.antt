use Rattle.std.specs.Prelude.{ℕ, zero, suc, ◌≡◌, [], ◌∷◌, slice_index, refl}
use Rattle.std.proofs.Common.{ap, arith, lit≤, pos}
use Rattle.std.proofs.lemmas.Bool.{both_ways}
use Rattle.sets.specs.Placings.{changed, Proper}
use Rattle.rows.specs.Rows.{alone, RowData}
use Rattle.rows.specs.Laws.{Accepted}
use Rattle.rows.specs.Traces.{content_word}
use Rattle.loose.specs.Loose.{loose}
use Rattle.loose.proofs.premises_needed.Goals as goal

-- ---- a row with one member, and data without members

unfoldable a_row : RowData
a_row = record { letter = 0x54; body = 1 ∷ []; members = record { voice = 0; argument = pos 0 } ∷ [] }

unfoldable no_row : RowData
no_row = record { letter = 0x54; body = 1 ∷ []; members = [] }

a_row_accepted : (n : ℕ) → Accepted (alone loose) a_row n
unfolding a_row
a_row_accepted n = record {
  shape = record { known_letter = refl; long_body = refl; counted = refl; some_members = lit≤ tt; few_members = lit≤ tt };
  yes = refl;
}

-- ---- two voices with the values 0 and 1

both_proper : Proper (3 ∷ 3 ∷ [])
both_proper zero h = (lit≤ tt, lit≤ tt)
both_proper (suc zero) h = (lit≤ tt, lit≤ tt)
both_proper (suc (suc i)) h = absurd (omega arith)

one_proper : Proper (3 ∷ [])
one_proper zero h = (lit≤ tt, lit≤ tt)
one_proper (suc i) h = absurd (omega arith)

pub returns : goal.returns
unfolding a_row no_row
returns c = record {
  accepts_no_row = λ f. let z : 0 ≡ 1 = (f no_row 0 refl).counted in absurd (omega (arith, z));
  holds_more = λ f. both_ways (loose.holds a_row (64 ∷ [])) refl (f a_row [] (64 ∷ []) (a_row_accepted 0));
  turn_more_empty = λ f. let z : 0 ≡ 3 = ap (λ s. slice_index s 1) (f a_row (0 ∷ []) (3 ∷ []) (a_row_accepted 1)) in absurd (omega (arith, z));
  trace_more_empty = λ f. let z : 2 ≡ 1 = ap content_word (f a_row (0 ∷ []) (0 ∷ []) (a_row_accepted 1)) in absurd (omega (arith, z));
  turn_more_no_row = λ f. let z : 3 ≡ 0 = ap (λ s. slice_index s 0) (f no_row (3 ∷ []) (3 ∷ []) both_proper) in absurd (omega (arith, z));
  trace_more_no_row = λ f. let z : 2 ≡ 1 = ap content_word (f no_row (3 ∷ []) (3 ∷ []) both_proper) in absurd (omega (arith, z));
  took_empty = λ f. both_ways (changed (loose.turn a_row (0 ∷ 3 ∷ [])) (0 ∷ 3 ∷ [])) (f a_row (0 ∷ 3 ∷ []) (a_row_accepted 2)) refl;
  took_no_row = λ f. both_ways (changed (loose.turn no_row (3 ∷ [])) (3 ∷ [])) (f no_row (3 ∷ []) one_proper) refl;
}
