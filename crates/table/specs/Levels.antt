-- Levels as memory holds them: their records, the oldest first, and the sets of all of them, n to a
-- level, in one list (the trail).
use Rattle.std.specs.Prelude.{ℕ, zero, suc, ◌*◌, ◌<◌, ◌≤◌, Bool, true, false, List, [], ◌∷◌, length, take, drop, ◌==◌, slice_index_or}
use Rattle.rows.specs.Rows.{RowData, Meaning}
use Rattle.stores.specs.Behaviours.{Behaviour}
use Rattle.stores.specs.declared.store.Stored.{Stored}
use Rattle.search.specs.Search.{Level, Status, BacksUp, child, taken}
use Rattle.search.specs.Search.Status.{going, unsatisfiable}
use Rattle.table.specs.declared.engine.level.LevelRecord.{LevelRecord}

-- what is read past the last record
abbrev pub no_record : LevelRecord
no_record = record { voice = 0; left = 0 }

-- the level d, counted from the oldest
abbrev pub level_at : ℕ → List ℕ → List LevelRecord → ℕ → Level
level_at n trail records d = record {
  sets = take n (drop (d * n) trail);
  voice = (slice_index_or records d no_record).voice;
  left = (slice_index_or records d no_record).left;
}

-- the first d levels, newest first
abbrev pub first_levels : ℕ → List ℕ → List LevelRecord → ℕ → List Level
first_levels n trail records zero = []
first_levels n trail records (suc d) = level_at n trail records d ∷ first_levels n trail records d

-- all levels, newest first
abbrev pub levels_at : ℕ → List ℕ → List LevelRecord → List Level
levels_at n trail records = first_levels n trail records (length records)

-- each level branches on one of the n voices, and on none below its own number
abbrev pub Voiced : ℕ → List LevelRecord → Type 0
Voiced n records =
    (i : ℕ) → i < length records
    → (i ≤ (slice_index_or records i no_record).voice)
    × ((slice_index_or records i no_record).voice < n)

-- ---- what is done with levels, newest first

-- there is none
abbrev pub no_levels : List Level → Bool
no_levels [] = true
no_levels (l ∷ ls) = false

-- there is one, and the newest has no value left to try
abbrev pub is_spent : List Level → Bool
is_spent [] = false
is_spent (l ∷ ls) = l.left == 0

-- the sets of the newest, and the others
abbrev pub newest_sets : List Level → List ℕ
newest_sets [] = []
newest_sets (l ∷ ls) = l.sets

abbrev pub without_newest : List Level → List Level
without_newest [] = []
without_newest (l ∷ ls) = ls

-- the sets of the node that is opened next, the root or the newest level's next child, and the
-- levels that it is opened below
abbrev pub next_sets : List ℕ → List Level → List ℕ
next_sets voices [] = voices
next_sets voices (l ∷ ls) = child l

abbrev pub next_levels : List Level → List Level
next_levels [] = []
next_levels (l ∷ ls) = taken l ∷ ls

-- the status of a search that has backed up to these levels
abbrev pub status_backed_up : List Level → Status
status_backed_up [] = unsatisfiable
status_backed_up (l ∷ ls) = going l ls

-- the state that a store may be in once the key was given to it, whatever it answered
abbrev pub KeyGiven : (b : Behaviour) → b.State → List ℕ → b.State → Type 0
KeyGiven b s k t = (r : Stored) × b.keeps s k r t

-- backing up from a failed node below the levels ls leaves the levels rest; n levels are exhausted
pub record Backed (b : Behaviour) (m : Meaning) (rows : List RowData) (ls : List Level)
    (s : b.State) (rest : List Level) (t : b.State) (n : ℕ) : Type 0 where
  pub lost : ℕ
  pub backs : BacksUp b m rows ls s (status_backed_up rest) t n lost
