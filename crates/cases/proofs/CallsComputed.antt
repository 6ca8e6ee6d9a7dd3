-- The cases of searches, refusals and limits, by computation.
use Rattle.std.proofs.Common.{◌≡◌, ℕ, Bool, true, ◌&&◌, eqb, List, [], length, refl}
use Rattle.std.proofs.lemmas.Bool.{and_parts, eqb-true}
use Rattle.std.specs.List.{list_all}
use lib.Count.{ones, count_trailing_zeros}
use Rattle.sets.specs.Sets.{mask, sift}
use Rattle.sets.specs.Placings.{same}
use Rattle.sets.proofs.Lists.{same_is}
use Rattle.rows.specs.Shared.{cut}
use Rattle.rows.specs.Bytes.{total_bytes}
use Rattle.search.specs.Calls.{judged}
use Rattle.cases.proofs.TurnsComputed.{all_by}
use Rattle.stores.specs.Behaviours.{Behaviour, Decided}
use Rattle.stores.specs.Bare as stores
use Rattle.stores.specs.ShelfLaws.{shelf}
use Rattle.stores.proofs.Deciding.{bare_decided, shelf_decided}
use Rattle.search.specs.Histories.{calls_in}
use Rattle.search.proofs.OutcomeFacts.{Played, replay}
use Rattle.cases.specs.CaseRows.{differing}
use Rattle.cases.specs.Tables.{CaseStore}
use Rattle.cases.specs.Tables.CaseStore.{shelf_of, bare_store}
use Rattle.cases.specs.SearchCases.{SearchCase, SearchHolds, SearchHoldsOver, SearchCaseHolds}
use Rattle.cases.specs.Searches.{searches, SearchesHold}
use Rattle.cases.specs.Refusals.{CallCase, CallHolds, refusals, RefusalsHold, limit_histories, LimitsReached}
use Rattle.cases.specs.Refusals.CallCase.{judgement_of, bytes_of, length_of}
use Rattle.cases.proofs.Same.{same_list, same_list_is, same_judgement, same_judgement_is, same_answer, answers_of, same_answers_is, same_table, same_table_is}
use Rattle.cases.proofs.Playing.{formed, replay_calls, led}

-- ---- searches

-- as many keys are lost as is written there, and these are held
abbrev same_keys : {S : Type 0} → SearchCase → Played S → List (List ℕ) → Bool
same_keys c p held = eqb p.lost c.lost && same_list same held c.keys

-- what has come of a case's calls is what is written there, with these keys held
abbrev agrees : {S : Type 0} → SearchCase → Played S → List (List ℕ) → Bool
agrees c p held = same_list same_answer (answers_of p.calls) (answers_of c.calls) && (same_table p.table c.table && same_keys c p held)

module _ (store : Behaviour) (d : Decided store) (g : store.State) where
  -- what comes of them
  abbrev played : SearchCase → Played store.State
  played c = replay store d c.bank g (calls_in c.calls)

  abbrev reached_by : SearchCase → Bool
  reached_by c = list_all formed (calls_in c.calls) && agrees c (played c) (store.view (played c).state).held

  holds_by_so : (c : SearchCase) → reached_by c ≡ true → SearchHolds store g c
  holds_by_so c e =
      let p : Played store.State = played c in
      let held = (store.view p.state).held in
      let f = and_parts (list_all formed (calls_in c.calls)) (agrees c p held) e in
      let a = and_parts (same_list same_answer (answers_of p.calls) (answers_of c.calls)) (same_table p.table c.table && same_keys c p held) f.1 in
      let t = and_parts (same_table p.table c.table) (same_keys c p held) a.1 in
      let k = and_parts (eqb p.lost c.lost) (same_list same held c.keys) t.1 in
      led store d g c f.0 (same_answers_is p.calls c.calls (replay_calls store d c.bank g (calls_in c.calls)) a.0) (same_table_is p.table c.table t.0)
      (eqb-true p.lost c.lost k.0) (same_list_is same same_is held c.keys k.1)

abbrev holds_over : CaseStore → SearchCase → Bool
holds_over (shelf_of words) c = reached_by shelf shelf_decided (record { held = []; room = words }) c
holds_over bare_store c = reached_by stores.bare bare_decided tt c

holds_over_so : (s : CaseStore) (c : SearchCase) → holds_over s c ≡ true → SearchHoldsOver s c
holds_over_so (shelf_of words) c e = holds_by_so shelf shelf_decided (record { held = []; room = words }) c e
holds_over_so bare_store c e = holds_by_so stores.bare bare_decided tt c e

abbrev leads : SearchCase → Bool
leads c = holds_over c.store c

holds_so : (c : SearchCase) → leads c ≡ true → SearchCaseHolds c
holds_so c e = holds_over_so c.store c e

all_lead : list_all leads searches ≡ true
unfolding ones count_trailing_zeros mask sift cut
all_lead = refl

pub searches_hold : SearchesHold
searches_hold = all_by leads SearchCaseHolds holds_so searches all_lead

-- ---- refusals

abbrev comes : CallCase → Bool
comes (judgement_of t c judgement) = same_judgement (judged differing t c) judgement
comes (bytes_of rows bytes) = eqb (total_bytes rows) bytes
comes (length_of bs bytes) = eqb (length bs) bytes

comes_so : (c : CallCase) → comes c ≡ true → CallHolds c
comes_so (judgement_of t c judgement) e = same_judgement_is (judged differing t c) judgement e
comes_so (bytes_of rows bytes) e = eqb-true (total_bytes rows) bytes e
comes_so (length_of bs bytes) e = eqb-true (length bs) bytes e

all_come : list_all comes refusals ≡ true
all_come = refl

pub refusals_hold : RefusalsHold
refusals_hold = all_by comes CallHolds comes_so refusals all_come

limits_lead : list_all leads limit_histories ≡ true
limits_lead = refl

pub limits_reached : LimitsReached
limits_reached = record { histories = all_by leads SearchCaseHolds holds_so limit_histories limits_lead; bytes_counted = refl; sheet_bytes = refl; body_bytes = refl; key_words = refl }
