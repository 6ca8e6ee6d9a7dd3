-- What a call does, from what its code leaves; and that it extends every history.
use Rattle.std.proofs.Common.{◌≡◌, ℕ, ◌+◌, ◌≤◌, false, ◌⊎◌, List, [], ◌∷◌, ◌++◌, length, drop, Ok, Err, Result, OnErr, vec_items, sym, refl, ap, ◌∙◌, subst, inl, inr, arith}
use Rattle.std.proofs.lemmas.List.{length-map}
use Rattle.sets.specs.Sets.{least}
use Rattle.sets.specs.Placings.{values}
use Rattle.rows.specs.Rows.{RowData, Meaning}
use Rattle.rows.specs.Laws.{Laws}
use Rattle.rows.specs.Bytes.{decode}
use Rattle.stores.specs.Behaviours.{Behaviour}
use Rattle.search.specs.Search.{Level, Status}
use Rattle.search.specs.Search.Status.{fresh, going, satisfied, unsatisfiable}
use Rattle.rows.specs.Reasons.{Judgement}
use Rattle.search.specs.Calls.{TableData, fresh_table, Call, Answer, Formed, judged, is_found, result, status_answer, Does}
use Rattle.search.specs.Calls.Call.{declare, post, solve, read, wipe}
use Rattle.search.specs.Histories.{History}
use Rattle.search.proofs.AnyStore.{goes_any}
use Rattle.search.proofs.AnswerFacts.{goes_kept}
use Rattle.search.proofs.OverEvery.{invariant_holds, answers_hold, reads_hold}
use Rattle.table.specs.declared.engine.level.End.{End}
use Rattle.table.specs.declared.engine.level.End.TheVariants.{Fresh, Found, Exhausted}
use Rattle.table.specs.declared.outcome.Outcome.{Outcome}
use Rattle.table.specs.declared.outcome.Outcome.TheVariants as out
use Rattle.table.specs.declared.engine.state.Search.{Search}
use Rattle.table.specs.Statuses.{status_at}
use Rattle.table.specs.Searches.{status_of, table_of, FreshSearch, outcome_of, BudgetRun}
use Rattle.table.specs.declared.refusal.Refusal.{Refusal}
use Rattle.table.specs.Shown.{outcome_answer}
use Rattle.table.specs.CallLaws.{AnswerMeans, ReadMeans, ExtendsHistories}

-- ---- what lasts

module _ (st : Behaviour) (m : Meaning) (L : Laws m) where
  read_means : (g : st.State) (h : List (Call × Answer)) (buffer : List ℕ) (a : Answer) (t : TableData) (v : st.State) → History st m g ((read buffer, a) ∷ h) t v → ReadMeans m h buffer a
  read_means g h buffer Answer.done t v H = tt
  read_means g h buffer (Answer.refused n) t v H = tt
  read_means g h buffer (Answer.found p) t v H = tt
  read_means g h buffer Answer.none t v H = tt
  read_means g h buffer Answer.stopped t v H = tt
  read_means g h buffer (Answer.wrote n b) t v H = reads_hold st m L g [] h buffer n b t v H

  means : (g : st.State) (h : List (Call × Answer)) (c : Call) (a : Answer) (t : TableData) (v : st.State) → History st m g ((c, a) ∷ h) t v → AnswerMeans m h c a
  means g h (declare s) a t v H = tt
  means g h (post bs) a t v H = tt
  means g h (solve b) a t v H = answers_hold st m L g [] h b a t v H
  means g h (read buffer) a t v H = read_means g h buffer a t v H
  means g h wipe a t v H = tt

  pub extends_by : (t : TableData) (v : st.State) (c : Call) (a : Answer) (u : TableData) (w : st.State) → Formed c → Does st m t v c a u w → ExtendsHistories st m t v c a u w
  extends_by t v c a u w f d = record {
    history = λ g h H. History.then h t u v w c a H f d;
    invariant = λ g h H. invariant_holds st m L g ((c, a) ∷ h) u w (History.then h t u v w c a H f d);
    means = λ g h H. means g h c a u w (History.then h t u v w c a H f d);
  }

-- ---- a search that has not begun

pub begun_table : (voices : List ℕ) (rows : List RowData) (n : ℕ) (s : Search) → FreshSearch n s → table_of voices rows s ≡ fresh_table voices rows
begun_table voices rows n s b =
    let at : List Level → End → ℕ → ℕ → TableData = λ ls e o x. record { voices = voices; rows = rows; status = status_at e (vec_items s.sets) ls; opened = o; exhausted = x } in
    ap (λ (ls : List Level). at ls s.end s.opened s.exhausted) b.no_level
    ∙ ap (λ (e : End). at [] e s.opened s.exhausted) b.fresh_end
    ∙ ap (λ (o : ℕ). at [] Fresh o s.exhausted) b.none_opened
    ∙ ap (λ (x : ℕ). at [] Fresh 0 x) b.none_exhausted

-- ---- what the calls do

pub refuses_by : (st : Behaviour) (m : Meaning) (t : TableData) (v : st.State) (c : Call) (n : ℕ) → judged m t c ≡ Judgement.refused_under n → Does st m t v c (Answer.refused n) t v
refuses_by st m t v c n e = Does.refuses c n e

-- what holds anyway holds where a call is refused
pub on_err : {P : Type 0} (r : Result (Unit {0}) Refusal) → P → OnErr r P
on_err (Ok x) p = tt
on_err (Err refusal) p = p

-- refused, with a row written beyond the table's own
pub refuses_kept : (st : Behaviour) (m : Meaning) (voices : List ℕ) (rows rows' : List RowData) (s : Search) (v : st.State) (c : Call) (n : ℕ) (a : Answer) → rows' ≡ rows → a ≡ Answer.refused n
    → judged m (table_of voices rows s) c ≡ Judgement.refused_under n → Does st m (table_of voices rows s) v c a (table_of voices rows' s) v
refuses_kept st m voices rows rows' s v c n a e f g =
    subst (λ (x : List RowData). Does st m (table_of voices rows s) v c a (table_of voices x s) v) (sym e)
    (subst (λ (x : Answer). Does st m (table_of voices rows s) v c x (table_of voices rows s) v) (sym f) (refuses_by st m (table_of voices rows s) v c n g))

pub declares_by : (st : Behaviour) (m : Meaning) (voices voices' : List ℕ) (rows : List RowData) (s s' : Search) (v w : st.State) (x n : ℕ) → voices' ≡ voices ++ (x ∷ []) → FreshSearch n s'
    → judged m (table_of voices rows s) (declare x) ≡ Judgement.passes → st.empties v w
    → Does st m (table_of voices rows s) v (declare x) Answer.done (table_of voices' rows s') w
declares_by st m voices voices' rows s s' v w x n e b f h =
    let to : table_of voices' rows s' ≡ fresh_table (voices ++ (x ∷ [])) rows = begun_table voices' rows n s' b ∙ ap (λ (y : List ℕ). fresh_table y rows) e in
    subst (λ (y : TableData). Does st m (table_of voices rows s) v (declare x) Answer.done y w) (sym to) (Does.declares x w f h)

pub posts_by : (st : Behaviour) (m : Meaning) (voices : List ℕ) (rows rows' : List RowData) (s s' : Search) (v w : st.State) (bs : List ℕ) (n : ℕ) → rows' ≡ rows ++ (decode m bs ∷ []) → FreshSearch n s'
    → judged m (table_of voices rows s) (post bs) ≡ Judgement.passes → st.empties v w
    → Does st m (table_of voices rows s) v (post bs) Answer.done (table_of voices rows' s') w
posts_by st m voices rows rows' s s' v w bs n e b f h =
    let to : table_of voices rows' s' ≡ fresh_table voices (rows ++ (decode m bs ∷ [])) = begun_table voices rows' n s' b ∙ ap (λ (y : List RowData). fresh_table voices y) e in
    subst (λ (y : TableData). Does st m (table_of voices rows s) v (post bs) Answer.done y w) (sym to) (Does.posts bs w f h)

pub wipes_by : (st : Behaviour) (m : Meaning) (t : TableData) (voices : List ℕ) (s : Search) (v w : st.State) (n : ℕ) → voices ≡ [] → FreshSearch n s → st.empties v w
    → Does st m t v wipe Answer.done (table_of voices [] s) w
wipes_by st m t voices s v w n e b h =
    let to : table_of voices [] s ≡ fresh_table [] [] = begun_table voices [] n s b ∙ ap (λ (y : List ℕ). fresh_table y []) e in
    subst (λ (y : TableData). Does st m t v wipe Answer.done y w) (sym to) (Does.wipes w h)

pub made_by : (st : Behaviour) (m : Meaning) (voices : List ℕ) (s : Search) (g w : st.State) (n : ℕ) → voices ≡ [] → FreshSearch n s → st.empties g w
    → History st m g [] (table_of voices [] s) w
made_by st m voices s g w n e b h =
    let to : table_of voices [] s ≡ fresh_table [] [] = begun_table voices [] n s b ∙ ap (λ (y : List ℕ). fresh_table y []) e in
    subst (λ (y : TableData). History st m g [] y w) (sym to) (History.made w h)

outcome_says : (p : Status) → outcome_answer (outcome_of p) (result p) ≡ status_answer p
outcome_says fresh = refl
outcome_says (going l ls) = refl
outcome_says (satisfied p) = refl
outcome_says unsatisfiable = refl

pub solves_by : (st : Behaviour) (m : Meaning) (voices : List ℕ) (rows : List RowData) (s s' : Search) (v w : st.State) (b : ℕ) (o : Outcome) → o ≡ outcome_of (status_of s')
    → judged m (table_of voices rows s) (solve b) ≡ Judgement.passes → BudgetRun st m b (table_of voices rows s) v (table_of voices rows s') w
    → Does st m (table_of voices rows s) v (solve b) (outcome_answer o (result (status_of s'))) (table_of voices rows s') w
solves_by st m voices rows s s' v w b o e f r =
    let a : outcome_answer o (result (status_of s')) ≡ status_answer (status_of s') = ap (λ (x : Outcome). outcome_answer x (result (status_of s'))) e ∙ outcome_says (status_of s') in
    subst (λ (x : Answer). Does st m (table_of voices rows s) v (solve b) x (table_of voices rows s') w) (sym a)
    (Does.solves b (table_of voices rows s') w r.lost f r.run)

-- no fewer nodes are opened than before, and at most as many more as the budget says
pub opens_within : (st : Behaviour) {m : Meaning} {b : ℕ} {t : TableData} {v : st.State} {u : TableData} {w : st.State} → BudgetRun st m b t v u w
    → (t.opened ≤ u.opened) × (u.opened ≤ t.opened + b)
opens_within st {m} r =
    let k = goes_kept (goes_any st m r.run.goes) in
    (omega (arith, k.opened), omega (arith, k.opened, r.run.inside))

-- ---- what was found

stopped_not : (p : Status) → out.Stopped ≡ outcome_of p → is_found p ≡ false
stopped_not fresh e = refl
stopped_not (going l ls) e = refl
stopped_not (satisfied p) e = cc
stopped_not unsatisfiable e = refl

none_not : (p : Status) → out.None ≡ outcome_of p → is_found p ≡ false
none_not fresh e = refl
none_not (going l ls) e = refl
none_not (satisfied p) e = cc
none_not unsatisfiable e = refl

pub not_found : (o : Outcome) (p : Status) → (o ≡ out.Stopped) ⊎ (o ≡ out.None) → o ≡ outcome_of p → is_found p ≡ false
not_found o p (inl e) h = stopped_not p (sym e ∙ h)
not_found o p (inr e) h = none_not p (sym e ∙ h)

pub found_status : (e : End) (w : List ℕ) (ls : List Level) → out.Found ≡ outcome_of (status_at e w ls) → status_at e w ls ≡ satisfied (values w)
found_status Fresh w [] h = cc
found_status Found w [] h = refl
found_status Exhausted w [] h = cc
found_status Fresh w (l ∷ ls) h = cc
found_status Found w (l ∷ ls) h = cc
found_status Exhausted w (l ∷ ls) h = cc

pub reads_by : (st : Behaviour) (m : Meaning) (voices : List ℕ) (rows : List RowData) (s : Search) (v : st.State) (sets buffer after : List ℕ) → status_of s ≡ satisfied (values sets)
    → after ≡ values sets ++ drop (length sets) buffer → judged m (table_of voices rows s) (read buffer) ≡ Judgement.passes
    → Does st m (table_of voices rows s) v (read buffer) (Answer.wrote (length sets) after) (table_of voices rows s) v
reads_by st m voices rows s v sets buffer after e f g =
    let n : length (values sets) ≡ length sets = length-map sets least in
    let a : Answer.wrote (length (values sets)) (values sets ++ drop (length (values sets)) buffer) ≡ Answer.wrote (length sets) after =
    ap (λ (k : ℕ). Answer.wrote k (values sets ++ drop k buffer)) n ∙ ap (λ (y : List ℕ). Answer.wrote (length sets) y) (sym f) in
    subst (λ (x : Answer). Does st m (table_of voices rows s) v (read buffer) x (table_of voices rows s) v) a (Does.reads buffer (values sets) g e)

-- ---- from slices to fields

pub runs_moved : (st : Behaviour) (m : Meaning) (voices voices' : List ℕ) (rows rows' : List RowData) (s s' : Search) (v w : st.State) (b : ℕ) → voices' ≡ voices → rows' ≡ rows
    → BudgetRun st m b (table_of voices' rows' s) v (table_of voices' rows' s') w → BudgetRun st m b (table_of voices rows s) v (table_of voices rows s') w
runs_moved st m voices voices' rows rows' s s' v w b e f r =
    subst (λ (x : List RowData). BudgetRun st m b (table_of voices x s) v (table_of voices x s') w) f
    (subst (λ (x : List ℕ). BudgetRun st m b (table_of x rows' s) v (table_of x rows' s') w) e r)
