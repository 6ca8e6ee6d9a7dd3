-- The rows of a table are accepted, and none of its opening sets is empty.
use Rattle.std.proofs.Common.{◌≡◌, ℕ, ◌^◌, ◌<◌, List, [], ◌∷◌, ◌++◌, length, Ok, sym, subst, arith}
use Rattle.std.proofs.lemmas.List.{length_push}
use Rattle.rows.specs.Rows.{RowData, Meaning}
use Rattle.rows.specs.Laws.{Laws, Accepted}
use Rattle.rows.specs.Bytes.{Bytes, decode}
use Rattle.rows.specs.Reading.{row_verdict}
use Rattle.rows.proofs.Layouts.{bytes_both_ways}
use Rattle.rows.specs.Placed.{AllAccepted, Ready}
use Rattle.search.proofs.HistoryFacts.{proper_push, okay_more, okay_push}
use Rattle.table.proofs.Posting.{laid_out, verdict_yes}

module _ (m : Meaning) where
  -- of a table with no voices and no rows
  pub ready_none : (rows : List RowData) (voices : List ℕ) → rows ≡ [] → voices ≡ [] → Ready m rows voices
  ready_none rows voices e f =
      subst (λ (x : List RowData). Ready m x voices) (sym e) (subst (Ready m []) (sym f) (record { accepted = tt; proper = λ i l. absurd (omega arith) }))

  -- with one voice more
  pub ready_voice : Laws m → (rows : List RowData) (voices voices' : List ℕ) (s : ℕ) → voices' ≡ voices ++ (s ∷ []) → 0 < s → s < 2 ^ 64 → Ready m rows voices → Ready m rows voices'
  ready_voice L rows voices voices' s e a b h = subst (Ready m rows) (sym e) (record {
    accepted = subst (AllAccepted m rows) (sym (length_push voices s)) (okay_more m L rows (length voices) h.accepted);
    proper = proper_push voices s a b h.proper;
  })

  -- a row whose bytes have passed
  pub passed_row : (bs : List ℕ) (n : ℕ) (y : Unit {0}) → Bytes bs → Ok y ≡ row_verdict m bs n → Accepted m (decode m bs) n
  passed_row bs n y b e = record { shape = ((bytes_both_ways m).1 bs b (laid_out m bs n y e)).0.shape; yes = verdict_yes m bs n y e }

  -- with one row more
  pub ready_row : (rows rows' : List RowData) (voices : List ℕ) (r : RowData) → rows' ≡ rows ++ (r ∷ []) → Accepted m r (length voices) → Ready m rows voices → Ready m rows' voices
  ready_row rows rows' voices r e a h = subst (λ (x : List RowData). Ready m x voices) (sym e) (record {
    accepted = okay_push m rows r (length voices) a h.accepted;
    proper = h.proper;
  })
