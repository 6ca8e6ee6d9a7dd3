-- Every history of calls keeps the invariant, and so the laws stand after it.
use Rattle.std.proofs.Common.{◌≡◌, ℕ, ◌+◌, ◌*◌, ◌^◌, ◌<◌, ◌≤◌, Bool, true, false, List, [], ◌∷◌, ◌++◌, length, drop, Ok, Err, sym, refl, ap, subst, inl, inr, arith}
use Rattle.std.proofs.lemmas.Bool.{both_ways, cases_lt, eqb-false, not-false}
use Rattle.std.proofs.lemmas.List.{length_push, get_or_push, get_or_append_left}
use Rattle.rows.specs.declared.refusal.KindRefusal.TheVariants.{Undeclared, RuleBroken}
use Rattle.sets.specs.Placings.{Proper}
use Rattle.rows.specs.Rows.{RowData, Meaning, Verdict}
use Rattle.rows.specs.Laws.{Laws, Accepted}
use Rattle.rows.specs.Bytes.{Bytes, Layout, head_length, lettered, counted, right_length, marked, decode}
use Rattle.rows.proofs.Layouts.{bytes_both_ways}
use Rattle.stores.specs.Stores.{is_held, View, distinct_keys}
use Rattle.search.proofs.AnyStore.{any}
use Rattle.search.specs.Search.{Status}
use Rattle.rows.specs.Reasons.{Judgement, judge, kind_refuses}
use Rattle.search.specs.Calls.{TableData, Call, Answer, Formed, reasons, judged, OpensNodes, Does, lost_after, empty}
use Rattle.search.specs.Histories.{History, keys_lost}
use Rattle.search.specs.Results.{Invariant}
use Rattle.rows.specs.Placed.{AllAccepted}
use Rattle.search.specs.Search.Status.{fresh, going, satisfied, unsatisfiable}
use Rattle.search.specs.Calls.Call.{declare, post}
use Rattle.search.proofs.NodeFacts.{Stage, SoundStore, steps}

-- the invariant of a table and its store, where so many keys were lost
pub record Fit (m : Meaning) (lost : ℕ) (t : TableData) (v : View) : Type 0 where
  pub proper : Proper t.voices
  pub okay : AllAccepted m t.rows (length t.voices)
  pub stage : Stage m t.rows t.voices t.status v t.opened t.exhausted
  pub store : SoundStore m t.rows (length t.voices) v t.exhausted lost

empty_store : (m : Meaning) (rows : List RowData) (n : ℕ) (v : View) → v.held ≡ [] → SoundStore m rows n v 0 0
empty_store m rows n v e = record {
  sound = λ x z. absurd (both_ways false refl (subst (λ (h : List (List ℕ)). is_held x h ≡ true) e z));
  count = λ _. ap length e;
  distinct = ap distinct_keys e;
}

pub proper_push : (voices : List ℕ) (s : ℕ) → 0 < s → s < 2 ^ 64 → Proper voices → Proper (voices ++ (s ∷ []))
proper_push voices s a b p i l =
    elim (cases_lt i (length voices)) [
      | inl h ↦ subst (λ (x : ℕ). (0 < x) × (x < 2 ^ 64)) (sym (get_or_append_left voices (s ∷ []) 0 i h)) (p i h)
      | inr h ↦ subst (λ (x : ℕ). (0 < x) × (x < 2 ^ 64)) (sym (get_or_push voices s 0 i (omega (arith, length_push voices s)))) (a, b)
    ]

pub okay_more : (m : Meaning) (L : Laws m) (rows : List RowData) (n : ℕ) → AllAccepted m rows n → AllAccepted m rows (n + 1)
okay_more m L [] n o = tt
okay_more m L (r ∷ rows) n o = (L.stays r n 1 o.0, okay_more m L rows n o.1)

pub okay_push : (m : Meaning) (rows : List RowData) (r : RowData) (n : ℕ) → Accepted m r n → AllAccepted m rows n → AllAccepted m (rows ++ (r ∷ [])) n
okay_push m [] r n a o = (a, tt)
okay_push m (x ∷ rows) r n a o = (o.0, okay_push m rows r n a o.1)

-- ---- what an accepted call has passed

abbrev IsRefused : Judgement → Type 0
IsRefused Judgement.passes = ⊥
IsRefused (Judgement.refused_under n) = Unit {0}

pub not_both : {x : Judgement} {n : ℕ} → x ≡ Judgement.refused_under n → x ≡ Judgement.passes → ⊥
not_both e f = subst IsRefused f (subst IsRefused (sym e) tt)

-- none of the reasons fits
abbrev pub NoneFits : List (ℕ × Bool) → Type 0
NoneFits [] = Unit {0}
NoneFits ((n, fits) ∷ others) = (fits ≡ false) × NoneFits others

pub none_fits : (rs : List (ℕ × Bool)) → judge rs ≡ Judgement.passes → NoneFits rs
none_fits [] e = tt
none_fits ((n, true) ∷ others) e = absurd (not_both refl e)
none_fits ((n, false) ∷ others) e = (refl, none_fits others e)

verdict : (x : Verdict) → kind_refuses 8 x ≡ false → kind_refuses 9 x ≡ false → x ≡ Ok tt
verdict (Ok x) a b = refl
verdict (Err Undeclared) a b = absurd (both_ways true a refl)
verdict (Err RuleBroken) a b = absurd (both_ways true b refl)

pub declared_set : (m : Meaning) (t : TableData) (s : ℕ) → judged m t (declare s) ≡ Judgement.passes → 0 < s
declared_set m t s j = omega (arith, eqb-false s 0 (none_fits (reasons m t (declare s)) j).0)

pub layout : (m : Meaning) (t : TableData) (bs : List ℕ) → judged m t (post bs) ≡ Judgement.passes → Layout m bs
layout m t bs j =
    let f = none_fits (reasons m t (post bs)) j in
    record {
      letters = not-false (lettered m bs) f.0;
      counts = not-false (counted bs) f.1.0;
      long = not-false (right_length m bs) f.1.1.0;
      marks = not-false (marked (drop (head_length m bs) bs)) f.1.1.1.0;
    }

posted_row : (m : Meaning) (t : TableData) (bs : List ℕ) → judged m t (post bs) ≡ Judgement.passes → Bytes bs → Accepted m (decode m bs) (length t.voices)
posted_row m t bs j b =
    let f = (none_fits (reasons m t (post bs)) j).1.1.1.1 in
    record { shape = ((bytes_both_ways m).1 bs b (layout m t bs j)).0.shape; yes = verdict (m.accepts (decode m bs) (length t.voices)) f.0 f.1.0 }

module _ (m : Meaning) (L : Laws m) where
  pub goes : {b : ℕ} {t : TableData} {v : View} {u : TableData} {w : View} {k : ℕ} → OpensNodes any m b t v u w k → (lost : ℕ) → Fit m lost t v → Fit m (lost + k) u w
  goes (OpensNodes.stay t v) lost f = subst (λ (i : ℕ). Fit m i t v) (omega arith) f
  goes (OpensNodes.more b t u v w x p n k j S G) lost f =
      let next = steps m L t.rows t.voices f.okay f.proper S t.opened t.exhausted lost (f.stage, f.store) in
      let same : (lost + k) + j ≡ lost + (k + j) = omega arith in
      subst (λ (i : ℕ). Fit m i u x) same (goes G (lost + k) (record { proper = f.proper; okay = f.okay; stage = next.0; store = next.1 }))

  made : (v : View) → v.held ≡ [] → Fit m 0 empty v
  made v e = record { proper = λ i l. absurd (omega arith); okay = tt; stage = refl; store = empty_store m [] 0 v e }

  does : {t : TableData} {v : View} {c : Call} {a : Answer} {u : TableData} {w : View} (D : Does any m t v c a u w) → Formed c → (lost : ℕ) → Fit m lost t v
      → Fit m (lost_after D lost) u w
  does (Does.refuses c n j) o lost f = f
  does {t} (Does.declares s w j e) o lost f = record {
    proper = proper_push t.voices s (declared_set m t s j) o f.proper;
    okay = subst (AllAccepted m t.rows) (sym (length_push t.voices s)) (okay_more m L t.rows (length t.voices) f.okay);
    stage = refl;
    store = empty_store m t.rows (length (t.voices ++ (s ∷ []))) w e;
  }
  does {t} (Does.posts bs w j e) o lost f = record {
    proper = f.proper;
    okay = okay_push m t.rows (decode m bs) (length t.voices) (posted_row m t bs j o) f.okay;
    stage = refl;
    store = empty_store m (t.rows ++ (decode m bs ∷ [])) (length t.voices) w e;
  }
  does (Does.wipes w e) o lost f = made w e
  does (Does.solves b u w k j S) o lost f = goes S.goes lost f
  does (Does.reads buffer p j e) o lost f = f

  pub fit : {g : View} {h : List (Call × Answer)} {t : TableData} {v : View} (H : History any m g h t v) → Fit m (keys_lost H) t v
  fit (History.made v e) = made v e
  fit (History.then h t u v w c a H o d) = does d o (keys_lost H) (fit H)

  bounded : (rows : List RowData) (voices : List ℕ) (v : View) (o e : ℕ) (p : Status) → Stage m rows voices p v o e → o ≤ 1 + 64 * (e + length voices)
  bounded rows voices v o e fresh s = omega arith
  bounded rows voices v o e (going l ls) s =
      let g = s.0 in
      omega (arith, s.3, g.depth, g.sits.first.inside, g.sits.long)
  bounded rows voices v o e (satisfied p) s = s.2
  bounded rows voices v o e unsatisfiable s = s.1

  pub invariant_holds : (h : List (Call × Answer)) (t : TableData) (v : View) → {g : View} (H : History any m g h t v) → Invariant m (keys_lost H) t v
  invariant_holds h t v H =
      let f = fit H in
      let at : (p : Status) → t.status ≡ p → Stage m t.rows t.voices p v t.opened t.exhausted =
      λ p e. subst (λ (x : Status). Stage m t.rows t.voices x v t.opened t.exhausted) e f.stage in
      record {
        found_least = λ p e. record { lawful = (at (satisfied p) e).0; least = (at (satisfied p) e).1 };
        none_lawful = λ e. (at unsatisfiable e).0;
        all_kept = f.store.count;
        distinct = f.store.distinct;
        bounded = bounded t.rows t.voices v t.opened t.exhausted t.status f.stage;
      }
