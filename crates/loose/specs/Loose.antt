-- A kind that does what the laws of a kind require, and no more. Its rows hold for every placing.
-- Its members name no voice, so that no voice of a row is undeclared.
use Rattle.std.specs.Prelude.{ℕ, ◌-◌, Bool, cond, ◌||◌, List, length, Ok, nat_eq, nat_lt, slice_set}
use Rattle.std.specs.List.{list_all}
use Rattle.sets.specs.Placings.{some_empty}
use Rattle.rows.specs.Rows.{RowData, KindMeaning}
use Rattle.rows.specs.declared.trace.Trace.TheVariants.{Settled, Open}

-- No law says anything of a turn or a trace here: the data have no members, so that they are no
-- row, or some set is empty.
abbrev pub unconstrained : RowData → List ℕ → Bool
unconstrained r s = nat_eq (length r.members) 0 || some_empty s

-- There a turn empties the last voice's set, so that it depends on how many voices there are.
-- Elsewhere it does nothing.
abbrev pub loose_turn : RowData → List ℕ → List ℕ
loose_turn r s = cond (unconstrained r s) (slice_set s (length s - 1) 0) s

-- What each field does beyond the laws: `accepts` is yes also for data that are no row; `holds`
-- looks at every voice, which shows where a number is no value; `turn` and `trace` depend on the
-- number of voices where they are unconstrained.
abbrev pub loose : KindMeaning
loose = record {
  letter = 0x54;
  body_length = 1;
  accepts = λ r n. Ok tt;
  holds = λ r p. list_all (λ v. nat_lt v 64) p;
  turn = loose_turn;
  trace = λ r s. cond (unconstrained r s) (Open (length s)) Settled;
}
