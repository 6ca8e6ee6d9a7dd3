-- One node of the search keeps the invariant.
use Rattle.std.proofs.Common.{◌≡◌, ℕ, suc, ◌+◌, ◌*◌, ◌<◌, ◌≤◌, Bool, true, false, ◌||◌, eqb, ◌⊎◌, List, [], ◌∷◌, length, get_or, drop, sym, refl, ◌∙◌, subst, inl, inr, arith}
use lib.Count.{ones}
use Rattle.std.proofs.lemmas.Bool.{both_ways, or_cases, eqb-true, eqb-false}
use Rattle.sets.proofs.Membership.{ones_all}
use Rattle.sets.specs.Sets.{has}
use Rattle.sets.specs.Placings.{some_empty, all_fixed, Proper, Lesser, values, same}
use Rattle.rows.specs.Rows.{RowData, Meaning}
use Rattle.rows.specs.Laws.{Laws}
use Rattle.stores.specs.Keys.{key}
use Rattle.stores.specs.Stores.{is_held, View, Keeps, distinct_keys}
use Rattle.search.proofs.AnyStore.{any}
use Rattle.rows.specs.Placed.{Lawful, AllAccepted}
use Rattle.search.specs.Search.{Level, Status, Node, below, level_of, node, child, taken, BacksUp, Opens, Steps}
use Rattle.search.specs.Propagation.{propagated}
use Rattle.stores.specs.declared.store.Stored.TheVariants.{Kept, Lost}
use Rattle.search.specs.Results.{Stable}
use Rattle.search.specs.Search.Status.{fresh, going, satisfied, unsatisfiable}
use Rattle.search.specs.Search.Node.{dead, solution, hit, branch}
use Rattle.search.proofs.SetParts.{rest, empty_has}
use Rattle.search.proofs.Boxes.{narrow_refl, within_narrow, empty_none, values_only}
use Rattle.sets.proofs.Lists.{values_within, same_is}
use Rattle.search.proofs.PropagationFacts.{propagated_ok, stable_holds}
use Rattle.search.proofs.KeyFacts.{Fails, Sound, key_sound}
use Rattle.search.proofs.LevelFacts.{Unheld, Chain, Going, fixed_drop, chain_fixed, chain_narrow, chain_inside, chain_least, branch_going, left_bound, child_chain, unheld_after, back_newest}

-- the values still to try, on all levels
abbrev pub waiting : List Level → ℕ
waiting [] = 0
waiting (l ∷ ls) = ones l.left + waiting ls

-- The nodes opened and exhausted so far: no level has more than 64 children.
abbrev pub Spent : List Level → ℕ → ℕ → Type 0
Spent ls o e = o + waiting ls ≤ 1 + 64 * (e + length ls)

-- what is true of a search with this status, o nodes opened and e exhausted
abbrev pub Stage : Meaning → List RowData → List ℕ → Status → View → ℕ → ℕ → Type 0
Stage m rows voices fresh v o e = o ≡ 0
Stage m rows voices (going l ls) v o e = Going m rows voices l ls × (0 < l.left) × Unheld m rows v (l ∷ ls) × Spent (l ∷ ls) o e
Stage m rows voices (satisfied p) v o e =
    Lawful m voices rows p × ((q : List ℕ) → Lawful m voices rows q → (q ≡ p) ⊎ Lesser p q) × (o ≤ 1 + 64 * (e + length voices))
Stage m rows voices unsatisfiable v o e = ((q : List ℕ) → Lawful m voices rows q → ⊥) × (o ≤ 1 + 64 * (e + length voices))

-- the store, with e nodes exhausted and j keys lost
pub record SoundStore (m : Meaning) (rows : List RowData) (n : ℕ) (v : View) (e j : ℕ) : Type 0 where
  pub sound : (x : List ℕ) → is_held x v.held ≡ true → Sound m rows n x
  pub count : j ≡ 0 → length v.held ≡ e
  pub distinct : distinct_keys v.held ≡ true

-- w holds nothing but what v holds and k
abbrev pub From : View → List ℕ → View → Type 0
From v k w = (x : List ℕ) → is_held x w.held ≡ true → (same x k || is_held x v.held) ≡ true

pub kept_from : (v : View) (k : List ℕ) (w : View) → Keeps v k Kept w → is_held k v.held ≡ false → From v k w × (length w.held ≡ length v.held + 1) × (distinct_keys v.held ≡ true → distinct_keys w.held ≡ true)
kept_from v k w (Keeps.held_already h) f = absurd (both_ways (is_held k v.held) f h)
kept_from v k w (Keeps.joins w' h s j) f = (λ x z. sym (j.holds x) ∙ z, j.count, j.distinct)

pub lost_from : (v : View) (k : List ℕ) (w : View) → Keeps v k Lost w → From v k w × (distinct_keys v.held ≡ true → distinct_keys w.held ≡ true)
lost_from v k w (Keeps.does_not_fit w' h s j d z) = (j, d)

-- what a node tells of its sets, looked at from the voice c on
abbrev pub Seen : Meaning → List RowData → View → ℕ → List ℕ → Node → Type 0
Seen m rows v c b dead = some_empty b ≡ true
Seen m rows v c b (solution p) = (all_fixed (drop c b) ≡ true) × (p ≡ values b) × (some_empty b ≡ false)
Seen m rows v c b hit = (is_held (key m rows b) v.held ≡ true) × (some_empty b ≡ false)
Seen m rows v c b (branch l) = (all_fixed (drop c b) ≡ false) × (is_held (key m rows b) v.held ≡ false) × (l ≡ level_of c b) × (some_empty b ≡ false)

pub seen : (m : Meaning) (rows : List RowData) (v : View) (c : ℕ) (b : List ℕ) (x : Node) → node m rows v c b ≡ x → Seen m rows v c b x
seen m rows v c b x e = subst (Seen m rows v c b) e (go (some_empty b) (all_fixed (drop c b)) (is_held (key m rows b) v.held) refl refl refl)
  where
    go : (x y z : Bool) → some_empty b ≡ x → all_fixed (drop c b) ≡ y → is_held (key m rows b) v.held ≡ z
        → Seen m rows v c b (elim x [ true ↦ dead | false ↦ elim y [ true ↦ solution (values b) | false ↦ elim z [ true ↦ hit | false ↦ branch (level_of c b) ] ] ])
    go true y z e f g = e
    go false true z e f g = (f, refl, e)
    go false false true e f g = (g, e)
    go false false false e f g = (f, g, refl, e)

module _ (m : Meaning) (L : Laws m) (rows : List RowData) (voices : List ℕ) (okay : AllAccepted m rows (length voices)) where
  -- a status and its store
  abbrev pub Both : Status → View → ℕ → ℕ → ℕ → Type 0
  Both p v o e j = Stage m rows voices p v o e × SoundStore m rows (length voices) v e j

  both_at : (p : Status) (v : View) (o e f j i : ℕ) → e ≡ f → j ≡ i → Both p v o e j → Both p v o f i
  both_at p v o e f j i a b h = subst (λ (x : ℕ). Both p v o x i) a (subst (λ (x : ℕ). Both p v o e x) b h)

  stored_after : (s : List ℕ) (v w : View) (e j f i : ℕ) → Proper s → length s ≡ length voices → Fails m rows s → From v (key m rows s) w
      → SoundStore m rows (length voices) v e j → (i ≡ 0 → length w.held ≡ f) → (distinct_keys v.held ≡ true → distinct_keys w.held ≡ true) → SoundStore m rows (length voices) w f i
  stored_after s v w e j f i p l fails h st c d = record {
    sound = λ x z. elim (or_cases (same x (key m rows s)) (is_held x v.held) (h x z)) [
      | inl y ↦ subst (Sound m rows (length voices)) (sym (same_is x (key m rows s) y)) (key_sound m L rows (length voices) s okay p l fails)
      | inr y ↦ st.sound x y
    ];
    count = c;
    distinct = d st.distinct;
  }

  exhausted : (l : Level) (ls : List Level) (box : List ℕ) → Chain m rows voices (l ∷ ls) box → Fails m rows box → eqb l.left 0 ≡ true → Fails m rows l.sets
  exhausted l ls box c f z p w h =
      let g = back_newest m rows voices l ls box c f in
      empty_has (get_or p l.voice 0) (subst (λ (y : ℕ). has y (get_or p l.voice 0) ≡ true) (eqb-true l.left 0 z) (g.newest p w h))

  backs_up : {ls : List Level} {v : View} {p : Status} {w : View} {n k : ℕ} → BacksUp any m rows ls v p w n k → (box : List ℕ) (o e j : ℕ)
      → Chain m rows voices ls box → Fails m rows box → Unheld m rows v ls → SoundStore m rows (length voices) v e j → Spent ls o e → Both p w o (e + n) (j + k)
  backs_up (BacksUp.root_failed v) box o e j c f u st sp =
      ((λ q lw. f q (c.keeps q lw.within lw.holding) lw.holding, omega arith), record { sound = st.sound; count = λ z. omega (arith, st.count (omega arith)); distinct = st.distinct })
  backs_up (BacksUp.value_left l ls v z) box o e j c f u st sp =
      ((back_newest m rows voices l ls box c f, omega (arith, eqb-false l.left 0 z), u, omega arith), record { sound = st.sound; count = λ z. omega (arith, st.count (omega arith)); distinct = st.distinct })
  backs_up (BacksUp.key_kept l ls v w x p n k z K B) box o e j c f u st sp =
      let fl = exhausted l ls box c f z in
      let a = kept_from v (key m rows l.sets) w K u.0 in
      let su = c.0 in
      both_at p x o (e + 1 + n) (e + suc n) (j + k) (j + k) (omega arith) refl
      (backs_up B l.sets o (e + 1) j c.3 fl
      (unheld_after m rows voices ls l.sets l.sets v w c.3 (narrow_refl l.sets) su.proper a.0 u.1)
      (stored_after l.sets v w e j (e + 1) j su.proper su.long fl a.0 st (λ y. omega (arith, a.1, st.count y)) a.2)
      (omega arith))
  backs_up (BacksUp.key_lost l ls v w x p n k z K B) box o e j c f u st sp =
      let fl = exhausted l ls box c f z in
      let a = lost_from v (key m rows l.sets) w K in
      let su = c.0 in
      both_at p x o (e + 1 + n) (e + suc n) (j + 1 + k) (j + suc k) (omega arith) (omega arith)
      (backs_up B l.sets o (e + 1) (j + 1) c.3 fl
      (unheld_after m rows voices ls l.sets l.sets v w c.3 (narrow_refl l.sets) su.proper a.0 u.1)
      (stored_after l.sets v w e j (e + 1) (j + 1) su.proper su.long fl a.0 st (λ y. absurd (omega arith)) a.1)
      (omega arith))

  shallow : (ls : List Level) (box : List ℕ) → Chain m rows voices ls box → length ls ≤ length voices
  shallow [] box c = omega arith
  shallow (l ∷ ls) box c = let s = c.0 in omega (arith, c.2, s.first.inside, s.long)

  -- a node with the sets b, propagated, is below the levels ls
  pub record Below (b : List ℕ) (ls : List Level) (v : View) (o e j : ℕ) : Type 0 where
    pub chain : Chain m rows voices ls b
    pub full : some_empty b ≡ false → Proper b × Stable m rows b
    pub unheld : Unheld m rows v ls
    pub store : SoundStore m rows (length voices) v e j
    pub spent : Spent ls o e

  same_store : (v : View) (e j : ℕ) → SoundStore m rows (length voices) v e j → SoundStore m rows (length voices) v (e + 0) (j + 0)
  same_store v e j st = record { sound = st.sound; count = λ z. omega (arith, st.count (omega arith)); distinct = st.distinct }

  finds : (b : List ℕ) (ls : List Level) (v : View) (o e j : ℕ) (p : List ℕ) → Below b ls v o e j → Seen m rows v (below ls) b (solution p) → Both (satisfied p) v o (e + 0) (j + 0)
  finds b ls v o e j p h y =
      let (pr, still) = h.full y.2 in
      let inside = chain_inside m rows voices ls b h.chain in
      let w = values_within b pr in
      let all : all_fixed b ≡ true = sym (fixed_drop (below ls) b (chain_fixed m rows voices ls b h.chain pr)) ∙ y.0 in
      subst (λ (x : List ℕ). Both (satisfied x) v o (e + 0) (j + 0)) (sym y.1) (
        (
          record { within = within_narrow (values b) b voices inside w; holding = stable_holds m L (length voices) rows b inside.long okay pr still all },
          (λ q lw. elim (chain_least m rows voices ls b (values b) q h.chain w lw.within lw.holding)
              [ inl k ↦ inl (values_only b q pr all k) | inr k ↦ inr k ]),
          omega (arith, h.spent, shallow ls b h.chain),
        ),
        same_store v e j h.store,
      )

  branches : (b : List ℕ) (ls : List Level) (v : View) (o e j : ℕ) (l : Level) → Below b ls v o e j → Seen m rows v (below ls) b (branch l) → Both (going l ls) v o (e + 0) (j + 0)
  branches b ls v o e j l h y =
      let (pr, still) = h.full y.3 in
      let g = branch_going m rows voices ls b h.chain pr y.0 in
      let at = pr (level_of (below ls) b).voice g.sits.first.inside in
      subst (λ (x : Level). Both (going x ls) v o (e + 0) (j + 0)) (sym y.2)
      ((g, at.0, (y.1, h.unheld), omega (arith, h.spent, ones_all (level_of (below ls) b).left at.1)), same_store v e j h.store)

  fails : (b : List ℕ) (ls : List Level) (v : View) (o e j : ℕ) {p : Status} {w : View} {n k : ℕ} → Below b ls v o e j → Fails m rows b
      → BacksUp any m rows ls v p w n k → Both p w o (e + n) (j + k)
  fails b ls v o e j h f B = backs_up B b o e j h.chain f h.unheld h.store h.spent

  hits : (b : List ℕ) (ls : List Level) (v : View) (o e j : ℕ) → Below b ls v o e j → Seen m rows v (below ls) b hit → Fails m rows b
  hits b ls v o e j h y = h.store.sound (key m rows b) y.0 b (h.full y.1).0 (chain_inside m rows voices ls b h.chain).long refl

  falls : (s : List ℕ) (ls : List Level) (v : View) (o e j : ℕ) → Proper s → Chain m rows voices ls s → Unheld m rows v ls
      → SoundStore m rows (length voices) v e j → Spent ls o e → Below (propagated m rows s) ls v o e j
  falls s ls v o e j pr c u st sp =
      let b = propagated m rows s in
      let ended = propagated_ok m L (length voices) rows s (chain_inside m rows voices ls s c).long okay pr in
      record {
        chain = chain_narrow m rows voices ls s b ended.0 c;
        full = λ z. elim ended.1 [ inl y ↦ absurd (both_ways (some_empty b) z y) | inr y ↦ y ];
        unheld = u;
        store = st;
        spent = sp;
      }

  opens : (s : List ℕ) (ls : List Level) (v : View) {p : Status} {w : View} {n k : ℕ} → Opens any m rows s ls v p w n k → (o e j : ℕ)
      → Below (propagated m rows s) ls v o e j → Both p w o (e + n) (j + k)
  opens s ls v (Opens.finds p h) o e j a = finds (propagated m rows s) ls v o e j p a (seen m rows v (below ls) (propagated m rows s) (solution p) h)
  opens s ls v (Opens.branches l h) o e j a = branches (propagated m rows s) ls v o e j l a (seen m rows v (below ls) (propagated m rows s) (branch l) h)
  opens s ls v (Opens.dies p w n k h B) o e j a =
      fails (propagated m rows s) ls v o e j a (λ q y _. empty_none (propagated m rows s) q (seen m rows v (below ls) (propagated m rows s) dead h) y) B
  opens s ls v (Opens.hits p w n k h B) o e j a =
      fails (propagated m rows s) ls v o e j a (hits (propagated m rows s) ls v o e j a (seen m rows v (below ls) (propagated m rows s) hit h)) B

  pub steps : (proper : Proper voices) {p : Status} {v : View} {q : Status} {w : View} {n k : ℕ} → Steps any m voices rows p v q w n k → (o e j : ℕ)
      → Both p v o e j → Both q w (o + 1) (e + n) (j + k)
  steps proper (Steps.opens_root v w p n k O) o e j (g, st) =
      opens voices [] v O (o + 1) e j (falls voices [] v (o + 1) e j proper (record { narrow = narrow_refl voices; keeps = λ q y h. y }) tt st (omega arith))
  steps proper (Steps.opens_child l ls v w p n k O) o e j (g, st) =
      let c = child_chain m rows voices l ls g.0 g.1 in
      let count = (rest l.left g.1 (left_bound m rows voices l ls g.0)).count in
      opens (child l) (taken l ∷ ls) v O (o + 1) e j (falls (child l) (taken l ∷ ls) v (o + 1) e j c.1 c.0 g.2 st (omega (arith, g.3)))
