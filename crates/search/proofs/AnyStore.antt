-- What every store may do, as a behaviour; and each behaviour's searches are among its searches.
use Rattle.std.proofs.Common.{◌≡◌, ℕ, true, false, List, refl, ◌∙◌, ap}
use Rattle.std.proofs.lemmas.Bool.{both_ways}
use Rattle.rows.specs.Rows.{RowData, Meaning}
use Rattle.stores.specs.Keys.{key}
use Rattle.stores.specs.Stores.{View, Emptied, Keeps}
use Rattle.stores.specs.Behaviours.{Behaviour}
use Rattle.stores.specs.declared.store.Stored.TheVariants.{Kept, Lost}
use Rattle.search.specs.Search.{Level, Status, BacksUp, Opens, Steps}
use Rattle.search.specs.Calls.{TableData, Call, Answer, over, OpensNodes, Does, lost_after}
use Rattle.search.specs.Histories.{History, keys_lost}
use Rattle.search.specs.CallOutcomes.{BacksNew, OpensNew, StepsNew}

-- its states are views, and it may do what any store may
abbrev pub any : Behaviour
any = record {
  State = View;
  view = λ v. v;
  empties = λ v w. Emptied w;
  keeps = Keeps;
  empties_lawfully = λ v w e. e;
  keeps_lawfully = λ v w k a h. h;
}

-- ---- what is done over a store of the behaviour b may be done over any

module _ (b : Behaviour) (m : Meaning) where
  pub backs_any : {rows : List RowData} {ls : List Level} {s : b.State} {p : Status} {t : b.State} {n k : ℕ} → BacksUp b m rows ls s p t n k
      → BacksUp any m rows ls (b.view s) p (b.view t) n k
  backs_any (BacksUp.root_failed s) = BacksUp.root_failed (b.view s)
  backs_any (BacksUp.value_left l ls s z) = BacksUp.value_left l ls (b.view s) z
  backs_any {rows} (BacksUp.key_kept l ls s t u p n k z K B) =
      BacksUp.key_kept l ls (b.view s) (b.view t) (b.view u) p n k z (b.keeps_lawfully s t (key m rows l.sets) Kept K) (backs_any B)
  backs_any {rows} (BacksUp.key_lost l ls s t u p n k z K B) =
      BacksUp.key_lost l ls (b.view s) (b.view t) (b.view u) p n k z (b.keeps_lawfully s t (key m rows l.sets) Lost K) (backs_any B)

  pub opens_any : {rows : List RowData} {sets : List ℕ} {ls : List Level} {s : b.State} {p : Status} {t : b.State} {n k : ℕ} → Opens b m rows sets ls s p t n k
      → Opens any m rows sets ls (b.view s) p (b.view t) n k
  opens_any (Opens.finds p h) = Opens.finds p h
  opens_any (Opens.branches l h) = Opens.branches l h
  opens_any (Opens.dies p t n k h B) = Opens.dies p (b.view t) n k h (backs_any B)
  opens_any (Opens.hits p t n k h B) = Opens.hits p (b.view t) n k h (backs_any B)

  pub steps_any : {voices : List ℕ} {rows : List RowData} {p : Status} {s : b.State} {q : Status} {t : b.State} {n k : ℕ} → Steps b m voices rows p s q t n k
      → Steps any m voices rows p (b.view s) q (b.view t) n k
  steps_any (Steps.opens_root s t p n k O) = Steps.opens_root (b.view s) (b.view t) p n k (opens_any O)
  steps_any (Steps.opens_child l ls s t p n k O) = Steps.opens_child l ls (b.view s) (b.view t) p n k (opens_any O)

  pub goes_any : {n : ℕ} {t : TableData} {s : b.State} {u : TableData} {r : b.State} {lost : ℕ} → OpensNodes b m n t s u r lost → OpensNodes any m n t (b.view s) u (b.view r) lost
  goes_any (OpensNodes.stay t s) = OpensNodes.stay t (b.view s)
  goes_any (OpensNodes.more i t u s r x p n k lost S G) = OpensNodes.more i t u (b.view s) (b.view r) (b.view x) p n k lost (steps_any S) (goes_any G)

  pub does_any : {t : TableData} {s : b.State} {c : Call} {a : Answer} {u : TableData} {r : b.State} → Does b m t s c a u r → Does any m t (b.view s) c a u (b.view r)
  does_any (Does.refuses c n j) = Does.refuses c n j
  does_any {s = s} (Does.declares set r j e) = Does.declares set (b.view r) j (b.empties_lawfully s r e)
  does_any {s = s} (Does.posts bs r j e) = Does.posts bs (b.view r) j (b.empties_lawfully s r e)
  does_any {s = s} (Does.wipes r e) = Does.wipes (b.view r) (b.empties_lawfully s r e)
  does_any (Does.solves budget u r lost j S) =
      Does.solves budget u (b.view r) lost j (record { count = S.count; inside = S.inside; goes = goes_any S.goes; ends = S.ends })
  does_any (Does.reads buffer p j e) = Does.reads buffer p j e

  pub history_any : {g : b.State} {h : List (Call × Answer)} {t : TableData} {s : b.State} → History b m g h t s → History any m (b.view g) h t (b.view s)
  history_any {g} (History.made s e) = History.made (b.view s) (b.empties_lawfully g s e)
  history_any (History.then h t u s r c a H f D) = History.then h t u (b.view s) (b.view r) c a (history_any H) f (does_any D)

  -- and as many keys are lost
  pub after_any : {t : TableData} {s : b.State} {c : Call} {a : Answer} {u : TableData} {r : b.State} (D : Does b m t s c a u r) (n : ℕ) → lost_after (does_any D) n ≡ lost_after D n
  unfolding does_any
  after_any (Does.refuses c n j) k = refl
  after_any (Does.declares set r j e) k = refl
  after_any (Does.posts bs r j e) k = refl
  after_any (Does.wipes r e) k = refl
  after_any (Does.solves budget u r lost j S) k = refl
  after_any (Does.reads buffer p j e) k = refl

  pub lost_any : {g : b.State} {h : List (Call × Answer)} {t : TableData} {s : b.State} (H : History b m g h t s) → keys_lost (history_any H) ≡ keys_lost H
  unfolding history_any
  lost_any (History.made s e) = refl
  lost_any (History.then h t u s r c a H f D) = after_any D (keys_lost (history_any H)) ∙ ap (lost_after D) (lost_any H)

  -- keys that are new there are new here
  backs_new : {rows : List RowData} {ls : List Level} {s : b.State} {p : Status} {t : b.State} {n k : ℕ} (B : BacksUp b m rows ls s p t n k) → BacksNew (backs_any B) → BacksNew B
  unfolding backs_any
  backs_new (BacksUp.root_failed s) h = tt
  backs_new (BacksUp.value_left l ls s z) h = tt
  backs_new (BacksUp.key_kept l ls s t u p n k z K B) h = (h.0, backs_new B h.1)
  backs_new (BacksUp.key_lost l ls s t u p n k z K B) h = (h.0, backs_new B h.1)

  opens_new : {rows : List RowData} {sets : List ℕ} {ls : List Level} {s : b.State} {p : Status} {t : b.State} {n k : ℕ} (O : Opens b m rows sets ls s p t n k)
      → OpensNew (opens_any O) → OpensNew O
  unfolding opens_any
  opens_new (Opens.finds p h) y = tt
  opens_new (Opens.branches l h) y = tt
  opens_new (Opens.dies p t n k h B) y = backs_new B y
  opens_new (Opens.hits p t n k h B) y = backs_new B y

  pub steps_new : {voices : List ℕ} {rows : List RowData} {p : Status} {s : b.State} {q : Status} {t : b.State} {n k : ℕ} (S : Steps b m voices rows p s q t n k)
      → StepsNew (steps_any S) → StepsNew S
  unfolding steps_any
  steps_new (Steps.opens_root s t p n k O) y = opens_new O y
  steps_new (Steps.opens_child l ls s t p n k O) y = opens_new O y

  -- a Solve of a search that is over leaves the store
  pub steps_open : {voices : List ℕ} {rows : List RowData} {p : Status} {s : b.State} {q : Status} {t : b.State} {n k : ℕ} → Steps b m voices rows p s q t n k → over p ≡ false
  steps_open (Steps.opens_root s t p n k O) = refl
  steps_open (Steps.opens_child l ls s t p n k O) = refl

  pub goes_over : {n : ℕ} {t : TableData} {s : b.State} {u : TableData} {r : b.State} {lost : ℕ} → OpensNodes b m n t s u r lost → over t.status ≡ true → r ≡ s
  goes_over (OpensNodes.stay t s) o = refl
  goes_over (OpensNodes.more i t u s r x p n k lost S G) o = absurd (both_ways (over t.status) (steps_open S) o)
