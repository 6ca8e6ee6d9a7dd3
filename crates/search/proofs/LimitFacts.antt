-- What no history passes: the limits of a table.
use Rattle.std.proofs.Common.{◌≡◌, ℕ, ◌+◌, ◌≤◌, not, ltb, leb, List, [], ◌∷◌, ◌++◌, length, sym, ap, subst, inl, inr, arith}
use Rattle.std.proofs.lemmas.Bool.{both_ways, or_parts, and_cases, leb-false, ltb-false, not-false, cases_Bool}
use Rattle.std.proofs.lemmas.List.{length_push}
use Rattle.sets.specs.Placings.{Proper}
use Rattle.rows.specs.Rows.{RowData, Meaning}
use Rattle.rows.specs.Bytes.{decode, encode, total_bytes, LaidOut}
use Rattle.rows.proofs.Layouts.{bytes_both_ways}
use Rattle.stores.specs.Stores.{View}
use Rattle.search.proofs.AnyStore.{any}
use Rattle.rows.specs.declared.limits.TheConstants.{MOST_VOICES, MOST_ROWS, MOST_BYTES, MOST_OPENED}
use Rattle.rows.specs.Reasons.{Judgement}
use Rattle.search.specs.Calls.{TableData, Call, Answer, Formed, reasons, judged, empty, over, status_answer, Does}
use Rattle.search.specs.Calls.Call.{declare, post, solve}
use Rattle.search.specs.Histories.{History}
use Rattle.search.specs.Results.{AllLaidOut, Limited}
use Rattle.search.proofs.HistoryFacts.{none_fits, layout, proper_push, declared_set}
use Rattle.search.proofs.AnswerFacts.{goes_kept, solve_keeps_budget}

total_push : (rows : List RowData) (r : RowData) → total_bytes (rows ++ (r ∷ [])) ≡ total_bytes rows + length (encode r)
total_push [] r = omega arith
total_push (x ∷ rows) r = omega (arith, total_push rows r)

laid_out_push : (m : Meaning) (rows : List RowData) (r : RowData) → AllLaidOut m rows → LaidOut m r → AllLaidOut m (rows ++ (r ∷ []))
laid_out_push m [] r a o = (o, tt)
laid_out_push m (x ∷ rows) r a o = (a.0, laid_out_push m rows r a.1 o)

module _ (m : Meaning) where
  none_yet : Limited m empty
  none_yet = record { voices = omega arith; sets = λ i l. absurd (omega arith); rows = omega arith; bytes = omega arith; laid_out = tt; opened = omega arith }

  solve_limit : (t : TableData) (v : View) (b : ℕ) (u : TableData) (w : View) → judged m t (solve b) ≡ Judgement.passes → Does any m t v (solve b) (status_answer u.status) u w → t.opened ≤ MOST_OPENED → u.opened ≤ MOST_OPENED
  solve_limit t v b u w j d l =
      let k = solve_keeps_budget m t v b (status_answer u.status) u w j d in
      let f = (none_fits (reasons m t (solve b)) j).1.0 in
      elim (cases_Bool (over t.status)) [
        | inl o ↦ omega (arith, l, ap (λ (x : TableData). x.opened) (k.repeats o))
        | inr o ↦ elim (and_cases (not (over t.status)) (ltb MOST_OPENED (t.opened + b)) f) [
          | inl e ↦ absurd (both_ways (over t.status) o (not-false (over t.status) e))
          | inr e ↦ omega (arith, ltb-false MOST_OPENED (t.opened + b) e, k.at_most)
        ]
      ]

  limits_after : {t : TableData} {v : View} {c : Call} {a : Answer} {u : TableData} {w : View} → Does any m t v c a u w → Formed c → Limited m t → Limited m u
  limits_after (Does.refuses c n j) o f = f
  limits_after {t} (Does.declares s w j e) o f = record {
    voices = omega (arith, length_push t.voices s, leb-false MOST_VOICES (length t.voices) (none_fits (reasons m t (declare s)) j).1.0);
    sets = proper_push t.voices s (declared_set m t s j) o f.sets;
    rows = f.rows;
    bytes = f.bytes;
    laid_out = f.laid_out;
    opened = omega arith;
  }
  limits_after {t} (Does.posts bs w j e) o f =
      let y = (bytes_both_ways m).1 bs o (layout m t bs j) in
      let g = or_parts (leb MOST_ROWS (length t.rows)) (ltb MOST_BYTES (total_bytes t.rows + length bs)) (none_fits (reasons m t (post bs)) j).1.1.1.1.1.1.0 in
      record {
        voices = f.voices;
        sets = f.sets;
        rows = omega (arith, length_push t.rows (decode m bs), leb-false MOST_ROWS (length t.rows) g.0);
        bytes = omega (arith, total_push t.rows (decode m bs), ap length y.1, ltb-false MOST_BYTES (total_bytes t.rows + length bs) g.1);
        laid_out = laid_out_push m t.rows (decode m bs) f.laid_out y.0;
        opened = omega arith;
      }
  limits_after (Does.wipes w e) o f = none_yet
  limits_after {t} {v} (Does.solves b u w lost j S) o f =
      let k = goes_kept S.goes in
      record {
        voices = subst (λ (x : List ℕ). length x ≤ MOST_VOICES) (sym k.voices) f.voices;
        sets = subst Proper (sym k.voices) f.sets;
        rows = subst (λ (x : List RowData). length x ≤ MOST_ROWS) (sym k.rows) f.rows;
        bytes = subst (λ (x : List RowData). total_bytes x ≤ MOST_BYTES) (sym k.rows) f.bytes;
        laid_out = subst (AllLaidOut m) (sym k.rows) f.laid_out;
        opened = solve_limit t v b u w j (Does.solves b u w lost j S) f.opened;
      }
  limits_after (Does.reads buffer p j e) o f = f

  limits : {g : View} {h : List (Call × Answer)} {t : TableData} {v : View} → History any m g h t v → Limited m t
  limits (History.made v e) = none_yet
  limits (History.then h t u v w c a H o d) = limits_after d o (limits H)

pub limits_hold : (m : Meaning) (h : List (Call × Answer)) (t : TableData) (v : View) → {g : View} → History any m g h t v → Limited m t
limits_hold m h t v H = limits m H
