-- Lists of sets of which none is empty: parts of them, and what they are put together from.
use Rattle.std.proofs.Common.{ℕ, zero, suc, ◌*◌, ◌^◌, ◌<◌, List, [], ◌∷◌, ◌++◌, length, take, drop, set, arith}
use Rattle.sets.specs.Placings.{Proper}
use Rattle.table.specs.declared.engine.level.LevelRecord.{LevelRecord}
use Rattle.table.specs.declared.engine.levels.Levels.{Levels}
use Rattle.table.specs.Levels.{first_levels, newest_sets}
use Rattle.table.specs.Stacks.{levels_in}

tail : (x : ℕ) (s : List ℕ) → Proper (x ∷ s) → Proper s
tail x s p i l = p (suc i) (omega arith)

pub proper_none : Proper []
proper_none i l = absurd (omega arith)

cons : (x : ℕ) (s : List ℕ) → (0 < x) × (x < 2 ^ 64) → Proper s → Proper (x ∷ s)
cons x s a p zero l = a
cons x s a p (suc i) l = p i (omega arith)

pub proper_take : (n : ℕ) (s : List ℕ) → Proper s → Proper (take n s)
proper_take zero s p = proper_none
proper_take (suc n) [] p = p
proper_take (suc n) (x ∷ s) p = cons x (take n s) (p 0 (omega arith)) (proper_take n s (tail x s p))

pub proper_drop : (n : ℕ) (s : List ℕ) → Proper s → Proper (drop n s)
proper_drop zero s p = p
proper_drop (suc n) [] p = p
proper_drop (suc n) (x ∷ s) p = proper_drop n s (tail x s p)

pub proper_append : (s t : List ℕ) → Proper s → Proper t → Proper (s ++ t)
proper_append [] t p q = q
proper_append (x ∷ s) t p q = cons x (s ++ t) (p 0 (omega arith)) (proper_append s t (tail x s p) q)

pub proper_set : (s : List ℕ) (i x : ℕ) → (0 < x) × (x < 2 ^ 64) → Proper s → Proper (set s i x)
proper_set [] i x a p = p
proper_set (y ∷ s) zero x a p = cons x s a (tail y s p)
proper_set (y ∷ s) (suc i) x a p = cons y (set s i x) (p 0 (omega arith)) (proper_set s i x a (tail y s p))

-- the newest level's sets
newest : (n : ℕ) (trail : List ℕ) (records : List LevelRecord) (d : ℕ) → Proper trail → Proper (newest_sets (first_levels n trail records d))
newest n trail records zero p = proper_none
newest n trail records (suc d) p = proper_take n (drop (d * n) trail) (proper_drop (d * n) trail p)

pub newest_proper : (l : Levels) → Proper (newest_sets (levels_in l))
newest_proper l = newest l.width l.trail.items l.records.items (length l.records.items) l.proper

pub power_some : (n : ℕ) → 0 < 2 ^ n
power_some zero = omega arith
power_some (suc n) = let r = power_some n in omega arith
