-- Backing up, one level after the other.
use Rattle.std.proofs.Common.{◌≡◌, ℕ, suc, ◌+◌, true, false, eqb, List, [], ◌∷◌, refl, subst, arith}
use Rattle.rows.specs.Rows.{RowData, Meaning}
use Rattle.stores.specs.Keys.{key}
use Rattle.stores.specs.Behaviours.{Behaviour}
use Rattle.search.specs.Search.{Level, Status, BacksUp}
use Rattle.stores.specs.declared.store.Stored.{Stored}
use Rattle.stores.specs.declared.store.Stored.TheVariants.{Kept, Lost}
use Rattle.table.specs.Levels.{no_levels, is_spent, newest_sets, without_newest, status_backed_up, Backed}

-- so many levels are exhausted, and what follows below the levels ls follows below those at the start
pub record Behind (st : Behaviour) (m : Meaning) (rows : List RowData) (start : List Level) (v : st.State) (ls : List Level) (w : st.State) (n : ℕ) : Type 0 where
  pub lost : ℕ
  pub carry : (p : Status) (u : st.State) (a b : ℕ) → BacksUp st m rows ls w p u a b → BacksUp st m rows start v p u (n + a) (lost + b)

module _ (st : Behaviour) (m : Meaning) (rows : List RowData) where
  recount : {ls : List Level} {v : st.State} {p : Status} {u : st.State} {a b c d : ℕ} → a ≡ c → b ≡ d → BacksUp st m rows ls v p u a b → BacksUp st m rows ls v p u c d
  recount {ls} {v} {p} {u} {a} {b} {c} {d} e f h = subst (λ x. BacksUp st m rows ls v p u c x) f (subst (λ x. BacksUp st m rows ls v p u x b) e h)

  pub behind_none : (ls : List Level) (v : st.State) (n : ℕ) → n ≡ 0 → Behind st m rows ls v ls v n
  behind_none ls v n e = record { lost = 0; carry = λ p u a b h. recount (omega arith) (omega arith) h }

  more : (start : List Level) (v : st.State) (l : Level) (ls : List Level) (w x : st.State) (n k : ℕ) (r : Stored) → k ≡ n + 1 → eqb l.left 0 ≡ true
      → st.keeps w (key m rows l.sets) r x → Behind st m rows start v (l ∷ ls) w n → Behind st m rows start v ls x k
  more start v l ls w x n k Kept e z h b =
      record { lost = b.lost; carry = λ p u a c t. recount (omega arith) refl (b.carry p u (suc a) c (BacksUp.key_kept l ls w x u p a c z h t)) }
  more start v l ls w x n k Lost e z h b =
      record { lost = suc b.lost; carry = λ p u a c t. recount (omega arith) (omega arith) (b.carry p u (suc a) (suc c) (BacksUp.key_lost l ls w x u p a c z h t)) }

  -- the newest level is exhausted, and its key went to the store
  pub behind_more : (start : List Level) (v : st.State) (ls : List Level) (w x : st.State) (i k : ℕ) (r : Stored) → is_spent ls ≡ true → k ≡ i + 1
      → st.keeps w (key m rows (newest_sets ls)) r x → Behind st m rows start v ls w i → Behind st m rows start v (without_newest ls) x k
  behind_more start v [] w x i k r z e h b = cc
  behind_more start v (l ∷ ls) w x i k r z e h b = more start v l ls w x i k r e z h b

  stops : (ls : List Level) (w : st.State) → is_spent ls ≡ false → BacksUp st m rows ls w (status_backed_up ls) w 0 0
  stops [] w z = BacksUp.root_failed w
  stops (l ∷ ls) w z = BacksUp.value_left l ls w z

  -- no level is left, or the newest has a value left to try
  pub backed : (start : List Level) (v : st.State) (ls : List Level) (w : st.State) (n : ℕ) → is_spent ls ≡ false → Behind st m rows start v ls w n → Backed st m rows start v ls w n
  backed start v ls w n z b = record { lost = b.lost; backs = recount (omega arith) (omega arith) (b.carry (status_backed_up ls) w 0 0 (stops ls w z)) }

-- a level is there
pub there : (ls : List Level) → is_spent ls ≡ true → no_levels ls ≡ false
there [] z = cc
there (l ∷ ls) z = refl
