-- The cases of turns, traces and acceptance, each of which the checker computes. A set is written
-- as a number: {1} is 2, {1,2} is 6, {2,3} is 12.
use Rattle.std.specs.Prelude.{◌≡◌, ℕ, List, [], ◌∷◌, pos, negsuc, Ok, Err, All}
use Rattle.rows.specs.declared.refusal.KindRefusal.TheVariants.{Undeclared, RuleBroken}
use Rattle.rows.specs.declared.trace.Trace.{Trace}
use Rattle.rows.specs.declared.trace.Trace.TheVariants.{Settled, Open}
use Rattle.rows.specs.Rows.{RowData, Verdict, Meaning}
use Rattle.kinds.specs.FourKinds.{four_kinds}
use Rattle.cases.specs.CaseRows.{differing, sums, clauses, elements, differs_2, differs_3, differs_4, differs_twice, differs_argument, sum_5, sum_2, sum_1, sum_bounded, sum_twice, either_of, literal, either_twice, entries, entries_of_itself, entry_of, entry_with_voice, row_of_no_kind}

-- ---- what a case says

-- For a bank and a row: the sets that a turn on these sets leaves, the trace on these sets, or the
-- verdict with so many voices.
pub data TurnCase : Type 0 where
  turn_of : Meaning → RowData → List ℕ → List ℕ → TurnCase
  trace_of : Meaning → RowData → List ℕ → Trace → TurnCase
  verdict_of : Meaning → RowData → ℕ → Verdict → TurnCase

-- the bank gives what the case says
abbrev pub TurnHolds : TurnCase → Type 0
TurnHolds (turn_of m r sets after) = m.turn r sets ≡ after
TurnHolds (trace_of m r sets trace) = m.trace r sets ≡ trace
TurnHolds (verdict_of m r voices verdict) = m.accepts r voices ≡ verdict

-- ---- the cases

abbrev pub turns : List TurnCase
turns =
    -- all different, a turn: each member in order, at its moment
    turn_of differing differs_3 (2 ∷ 6 ∷ 12 ∷ []) (2 ∷ 4 ∷ 8 ∷ [])
    -- two voices fixed at one value: the second is left none
    ∷ turn_of differing differs_2 (2 ∷ 2 ∷ []) (2 ∷ 0 ∷ [])
    -- voice 0 is fixed after its moment, and takes nothing in this turn
    ∷ turn_of differing differs_3 (6 ∷ 10 ∷ 4 ∷ []) (2 ∷ 10 ∷ 4 ∷ [])
    -- its trace: the values of the fixed voices, while one is open
    ∷ trace_of differing differs_4 (8 ∷ 16 ∷ 32 ∷ 7 ∷ []) (Open 56)
    -- where all are fixed, two at one value
    ∷ trace_of differing differs_3 (2 ∷ 2 ∷ 4 ∷ []) (Open 6)
    -- where all are fixed, at values that differ
    ∷ trace_of differing differs_3 (2 ∷ 4 ∷ 8 ∷ []) Settled
    -- its verdict: all three voices are declared, and only two are
    ∷ verdict_of differing differs_3 3 (Ok tt)
    ∷ verdict_of differing differs_3 2 (Err Undeclared)
    -- a voice that is there twice
    ∷ verdict_of differing differs_twice 1 (Err RuleBroken)
    -- an argument of -1
    ∷ verdict_of differing differs_argument 1 (Err RuleBroken)
    -- linear, a turn that changes nothing
    ∷ turn_of sums sum_5 (8 ∷ 16 ∷ 32 ∷ 7 ∷ 7 ∷ []) (8 ∷ 16 ∷ 32 ∷ 7 ∷ 7 ∷ [])
    -- a turn with coefficients below 0
    ∷ turn_of sums sum_2 (3 ∷ 3 ∷ []) (2 ∷ 2 ∷ [])
    -- a voice that is there twice; the turn is judged by the sets at its start, so voice 1 keeps
    -- both values until the next turn
    ∷ turn_of sums sum_twice (15 ∷ 3 ∷ []) (4 ∷ 3 ∷ [])
    -- its trace: the sum of the fixed voices, 16, and 4,000,000
    ∷ trace_of sums sum_5 (8 ∷ 16 ∷ 32 ∷ 7 ∷ 7 ∷ []) (Open 4000016)
    -- where the greatest sum is the bound
    ∷ trace_of sums sum_5 (8 ∷ 16 ∷ 32 ∷ 7 ∷ 3 ∷ []) Settled
    -- its verdict: a coefficient of 1,000, of 1,001, of -1,000, of -1,001
    ∷ verdict_of sums (sum_1 (pos 1000)) 1 (Ok tt)
    ∷ verdict_of sums (sum_1 (pos 1001)) 1 (Err RuleBroken)
    ∷ verdict_of sums (sum_1 (negsuc 999)) 1 (Ok tt)
    ∷ verdict_of sums (sum_1 (negsuc 1000)) 1 (Err RuleBroken)
    -- a bound of 3,000,000, of 3,000,001, of -3,000,000, of -3,000,001
    ∷ verdict_of sums (sum_bounded 0xC0 0xC6 0x2D 0x00) 1 (Ok tt)
    ∷ verdict_of sums (sum_bounded 0xC1 0xC6 0x2D 0x00) 1 (Err RuleBroken)
    ∷ verdict_of sums (sum_bounded 0x40 0x39 0xD2 0xFF) 1 (Ok tt)
    ∷ verdict_of sums (sum_bounded 0x3F 0x39 0xD2 0xFF) 1 (Err RuleBroken)
    -- a voice that is not declared goes before a coefficient past its limit
    ∷ verdict_of sums (sum_1 (pos 1001)) 0 (Err Undeclared)
    -- clause, a turn: one literal is not refuted
    ∷ turn_of clauses either_of (1 ∷ 12 ∷ []) (1 ∷ 8 ∷ [])
    -- all are refuted
    ∷ turn_of clauses either_of (1 ∷ 4 ∷ []) (0 ∷ 4 ∷ [])
    -- the same literal twice stands twice
    ∷ turn_of clauses either_twice (6 ∷ []) (6 ∷ [])
    -- its trace: a literal is certain, and none is
    ∷ trace_of clauses either_of (1 ∷ 8 ∷ []) Settled
    ∷ trace_of clauses either_of (3 ∷ 12 ∷ []) (Open 0)
    -- its verdict: both voices are declared
    ∷ verdict_of clauses either_of 2 (Ok tt)
    -- a literal of 127, of 128, of -1
    ∷ verdict_of clauses (literal (pos 127)) 1 (Ok tt)
    ∷ verdict_of clauses (literal (pos 128)) 1 (Err RuleBroken)
    ∷ verdict_of clauses (literal (negsuc 0)) 1 (Err RuleBroken)
    -- element, a turn: the second step starts from what the first leaves, also where index and
    -- result are one voice
    ∷ turn_of elements entries (15 ∷ 48 ∷ []) (5 ∷ 16 ∷ [])
    ∷ turn_of elements entries_of_itself (3 ∷ []) (0 ∷ [])
    -- its trace: the result is fixed, at 4
    ∷ trace_of elements entries (5 ∷ 16 ∷ []) (Open 4)
    -- the index is fixed, at 1 and past the entries
    ∷ trace_of elements entries (2 ∷ 48 ∷ []) (Open 7)
    ∷ trace_of elements entries (32 ∷ 48 ∷ []) (Open 64)
    -- none is fixed
    ∷ trace_of elements entries (5 ∷ 48 ∷ []) (Open 0)
    -- both are fixed, at an entry that is not the result and at one that is
    ∷ trace_of elements entries (2 ∷ 16 ∷ []) (Open 0)
    ∷ trace_of elements entries (1 ∷ 16 ∷ []) Settled
    -- its verdict: both voices are declared, and only the index is
    ∷ verdict_of elements entries 2 (Ok tt)
    ∷ verdict_of elements entries 1 (Err Undeclared)
    -- an entry of 63, of 64, of -1
    ∷ verdict_of elements (entry_of (pos 63)) 2 (Ok tt)
    ∷ verdict_of elements (entry_of (pos 64)) 2 (Err RuleBroken)
    ∷ verdict_of elements (entry_of (negsuc 0)) 2 (Err RuleBroken)
    -- an entry with a voice; a voice that is not declared goes before it
    ∷ verdict_of elements entry_with_voice 2 (Err RuleBroken)
    ∷ verdict_of elements entry_with_voice 1 (Err Undeclared)
    -- the four kinds side by side: a row of each, and one with a letter of none
    ∷ verdict_of four_kinds differs_3 3 (Ok tt)
    ∷ trace_of four_kinds sum_5 (8 ∷ 16 ∷ 32 ∷ 7 ∷ 7 ∷ []) (Open 4000016)
    ∷ turn_of four_kinds either_of (1 ∷ 12 ∷ []) (1 ∷ 8 ∷ [])
    ∷ turn_of four_kinds entries (15 ∷ 48 ∷ []) (5 ∷ 16 ∷ [])
    ∷ verdict_of four_kinds row_of_no_kind 1 (Err RuleBroken)
    ∷ []

-- Each case holds.
abbrev pub TurnsHold : Type 0
TurnsHold = All TurnHolds turns
