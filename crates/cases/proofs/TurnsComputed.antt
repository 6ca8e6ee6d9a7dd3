-- The cases of turns, traces and verdicts, by computation.
use Rattle.std.proofs.Common.{◌≡◌, Bool, true, false, eqb, List, refl, ap}
use Rattle.std.proofs.lemmas.Bool.{both_ways, eqb-true}
use Rattle.std.proofs.lemmas.List.Sums.{AllPass-from_list_all}
use Rattle.std.specs.Prelude.{Ok, Err, All}
use Rattle.std.specs.List.{list_all}
use lib.Count.{ones, count_trailing_zeros, count_leading_zeros}
use Rattle.rows.specs.declared.refusal.KindRefusal.TheVariants.{Undeclared, RuleBroken}
use Rattle.rows.specs.declared.trace.Trace.{Trace}
use Rattle.rows.specs.declared.trace.Trace.TheVariants.{Settled, Open}
use Rattle.rows.specs.Rows.{Verdict}
use Rattle.sets.specs.Sets.{mask, sift}
use Rattle.sets.specs.Placings.{same}
use Rattle.sets.proofs.Lists.{same_is}
use Rattle.rows.specs.Shared.{cut}
use Rattle.cases.specs.Turns.{TurnCase, TurnHolds, turns, TurnsHold}
use Rattle.cases.specs.Turns.TurnCase.{turn_of, trace_of, verdict_of}

-- ---- a list of which each element passes a test

-- where the test tells that P holds, P holds of each
pub all_by : {X : Type 0} (test : X → Bool) (P : X → Type 0) → ((x : X) → test x ≡ true → P x) → (xs : List X) → list_all test xs ≡ true → All P xs
all_by test P so xs e k d l = so _ (AllPass-from_list_all test xs e k d l)

-- ---- what comes out and what is written are the same

abbrev same_trace : Trace → Trace → Bool
same_trace Settled Settled = true
same_trace (Open a) (Open b) = eqb a b
same_trace x y = false

same_trace_is : (x y : Trace) → same_trace x y ≡ true → x ≡ y
same_trace_is Settled Settled e = refl
same_trace_is (Open a) (Open b) e = ap Open (eqb-true a b e)
same_trace_is x y e = absurd (both_ways false refl e)

abbrev same_verdict : Verdict → Verdict → Bool
same_verdict (Ok x) (Ok y) = true
same_verdict (Err Undeclared) (Err Undeclared) = true
same_verdict (Err RuleBroken) (Err RuleBroken) = true
same_verdict x y = false

same_verdict_is : (x y : Verdict) → same_verdict x y ≡ true → x ≡ y
same_verdict_is (Ok x) (Ok y) e = refl
same_verdict_is (Err Undeclared) (Err Undeclared) e = refl
same_verdict_is (Err RuleBroken) (Err RuleBroken) e = refl
same_verdict_is x y e = absurd (both_ways false refl e)

-- ---- the cases

abbrev comes : TurnCase → Bool
comes (turn_of m r sets after) = same (m.turn r sets) after
comes (trace_of m r sets trace) = same_trace (m.trace r sets) trace
comes (verdict_of m r voices verdict) = same_verdict (m.accepts r voices) verdict

comes_so : (c : TurnCase) → comes c ≡ true → TurnHolds c
comes_so (turn_of m r sets after) e = same_is (m.turn r sets) after e
comes_so (trace_of m r sets trace) e = same_trace_is (m.trace r sets) trace e
comes_so (verdict_of m r voices verdict) e = same_verdict_is (m.accepts r voices) verdict e

all_come : list_all comes turns ≡ true
unfolding ones count_trailing_zeros count_leading_zeros mask sift cut
all_come = refl

pub turns_hold : TurnsHold
turns_hold = all_by comes TurnHolds comes_so turns all_come
