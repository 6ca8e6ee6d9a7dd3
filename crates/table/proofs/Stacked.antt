-- A stack's own facts, as its steps use them.
use Rattle.std.proofs.Common.{◌≡◌, ℕ, suc, ◌+◌, ◌-◌, ◌*◌, ◌<◌, ◌≤◌, false, length, get_or, set, sym, ap, ◌∙◌, suc-mul, arith}
use Rattle.std.proofs.lemmas.List.{get_or_default}
use Rattle.std.proofs.lemmas.Nat.{mul-le}
use Rattle.search.specs.Search.{below}
use Rattle.table.specs.declared.engine.level.LevelRecord.{LevelRecord}
use Rattle.table.specs.declared.engine.levels.Levels.{Levels}
use Rattle.table.specs.Levels.{no_record, no_levels, next_levels, levels_at}
use Rattle.table.specs.Stacks.{levels_in}
use Rattle.table.proofs.Leveled.{some_from, place_of_newest, deep_below, record_taken, levels_tried}

-- the trail is as long as its levels
pub whole_trail : (l : Levels) → length l.trail.items ≡ length l.records.items * l.width
whole_trail l = sym l.trail.ok.0 ∙ l.whole ∙ ap (λ (n : ℕ). n * l.width) l.records.ok.0

-- where there is a level, its sets are there
pub some_records : (l : Levels) → no_levels (levels_in l) ≡ false → 0 < length l.records.items
some_records l e = some_from l.width l.trail.items l.records.items e

pub below_newest : (l : Levels) → no_levels (levels_in l) ≡ false → (l.records.len - 1) * l.width + l.width ≡ l.trail.len
below_newest l e = place_of_newest l.width l.records.len l.trail.len l.whole (omega (arith, some_records l e, l.records.ok.0))

-- room for one level more, which branches on a voice that is not fixed
pub record Roomy (l : Levels) (v : ℕ) : Type 0 where
  pub above : length l.records.items ≤ v
  pub fewer : l.records.len < l.width
  pub room : l.trail.len + l.width ≤ l.trail.cap

pub roomy : (l : Levels) (v : ℕ) → below (levels_in l) ≤ v → v < l.width → Roomy l v
roomy l v h k =
    let d = deep_below l.width l.trail.items l.records.items l.voiced in
    let f : l.records.len < l.width = omega (arith, d, h, k, l.records.ok.0) in
    record {
      above = omega (arith, d, h);
      fewer = f;
      room = omega (arith, l.whole, suc-mul l.records.len l.width, mul-le (suc l.records.len) l.width 80 80 (omega (arith, l.narrow)) l.narrow, l.broad);
    }

-- the newest record l, as the stack lends it
pub newest_record : (s : Levels) (l : LevelRecord) → 0 < s.records.len → l ≡ get_or s.records.items (s.records.len - 1) l → l ≡ get_or s.records.items (length s.records.items - 1) no_record
newest_record s l h e =
    let xs = s.records.items in
    let k : length s.records.items - 1 < length s.records.items = omega (arith, h, s.records.ok.0) in
    e ∙ ap (λ (n : ℕ). get_or xs (n - 1) l) s.records.ok.0 ∙ get_or_default xs (length xs - 1) l no_record k

-- the levels once the record has gone on
pub gone_on : (s : Levels) (l after : LevelRecord) → 0 < s.records.len → l ≡ get_or s.records.items (s.records.len - 1) l → after ≡ record_taken l
    → levels_at s.width s.trail.items (set s.records.items (s.records.len - 1) after) ≡ next_levels (levels_in s)
gone_on s l after h e t =
    let xs = s.records.items in
    levels_tried s.width s.trail.items xs (set xs (s.records.len - 1) after) (omega (arith, h, s.records.ok.0))
    (ap (λ (n : ℕ). set xs (n - 1) after) s.records.ok.0 ∙ ap (λ (r : LevelRecord). set xs (length xs - 1) r) (t ∙ ap record_taken (newest_record s l h e)))
