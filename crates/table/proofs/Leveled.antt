-- A stack of levels as it is held: what it is by its newest record, and what each step on it leaves.
use Rattle.std.proofs.Common.{◌≡◌, ℕ, zero, suc, ◌+◌, ◌-◌, ◌*◌, ◌<◌, ◌≤◌, ◌≢◌, false, eqb, List, [], ◌∷◌, ◌++◌, length, get_or, take, drop, set, sym, refl, ap, ◌∙◌, subst, ap₂, ⊎_elim, suc-mul, arith, length-drop, length-set}
use Rattle.std.proofs.lemmas.List.{take-take, drop-take, drop_at, take_at, take_all, length-take-le, get_or-set_same, get_or-set_other, get_or-take, get_or_append_left, get_or_push, length_push}
use Rattle.std.proofs.lemmas.Bool.{cases_lt, ne_eqb, eqb-false}
use Rattle.sets.specs.Sets.{least, only}
use Rattle.search.specs.Search.{Level, below}
use Rattle.table.specs.declared.engine.level.LevelRecord.{LevelRecord}
use Rattle.table.specs.Levels.{no_record, level_at, first_levels, levels_at, no_levels, is_spent, newest_sets, without_newest, next_sets, next_levels, Voiced}

-- ---- a stack with no level, and one with some

first_none : (n : ℕ) (trail : List ℕ) (records : List LevelRecord) (d : ℕ) → no_levels (first_levels n trail records d) ≡ eqb d 0
first_none n trail records zero = refl
first_none n trail records (suc d) = sym (ne_eqb (suc d) 0 (λ e. omega arith))

pub none_is : (n : ℕ) (trail : List ℕ) (records : List LevelRecord) → no_levels (levels_at n trail records) ≡ eqb (length records) 0
none_is n trail records = first_none n trail records (length records)

pub levels_none : (n : ℕ) (trail : List ℕ) (records : List LevelRecord) → length records ≡ 0 → levels_at n trail records ≡ []
levels_none n trail records e = ap (first_levels n trail records) e

pub some_from : (n : ℕ) (trail : List ℕ) (records : List LevelRecord) → no_levels (levels_at n trail records) ≡ false → 0 < length records
some_from n trail records e = omega (arith, eqb-false (length records) 0 (sym (none_is n trail records) ∙ e))

-- the levels by the newest record
pub levels_some : (n : ℕ) (trail : List ℕ) (records : List LevelRecord) → 0 < length records
    → levels_at n trail records ≡ level_at n trail records (length records - 1) ∷ first_levels n trail records (length records - 1)
levels_some n trail records h = let p : length records ≡ suc (length records - 1) = omega arith in ap (first_levels n trail records) p

pub below_some : (n : ℕ) (trail : List ℕ) (records : List LevelRecord) → 0 < length records → below (levels_at n trail records) ≡ (get_or records (length records - 1) no_record).voice + 1
below_some n trail records h = ap below (levels_some n trail records h) ∙ omega arith

-- there are no more levels than voices below the first that they leave open
pub deep_below : (n : ℕ) (trail : List ℕ) (records : List LevelRecord) → Voiced n records → length records ≤ below (levels_at n trail records)
deep_below n trail records v = ⊎_elim
    (λ (h : 0 < length records). omega (arith, below_some n trail records h, (v (length records - 1) (omega arith)).0))
    (λ (h : length records ≤ 0). omega arith)
    (cases_lt 0 (length records))

-- the newest level has a value left to try
pub some_left : (n : ℕ) (trail : List ℕ) (records : List LevelRecord) → 0 < length records → is_spent (levels_at n trail records) ≡ false
    → (get_or records (length records - 1) no_record).left ≢ 0
some_left n trail records h e = eqb-false _ 0 (sym (ap is_spent (levels_some n trail records h)) ∙ e)

-- ---- where the sets of a level lie

pub place_of_newest : (n d len : ℕ) → len ≡ d * n → 0 < d → (d - 1) * n + n ≡ len
place_of_newest n d len e h =
    let p : d ≡ suc (d - 1) = omega arith in
    omega (arith, suc-mul (d - 1) n, ap (λ x. x * n) p)

pub newest_sets_are : (n : ℕ) (trail : List ℕ) (records : List LevelRecord) → length trail ≡ length records * n → 0 < length records
    → drop (length trail - n) trail ≡ newest_sets (levels_at n trail records)
newest_sets_are n trail records e h =
    let k : length trail - n ≡ (length records - 1) * n = omega (arith, place_of_newest n (length records) (length trail) e h) in
    let w : length (drop ((length records - 1) * n) trail) ≤ n = omega (arith, place_of_newest n (length records) (length trail) e h, length-drop ((length records - 1) * n) trail) in
    ap (λ i. drop i trail) k ∙ sym (take_all n (drop ((length records - 1) * n) trail) w) ∙ sym (ap newest_sets (levels_some n trail records h))

-- the same as the code reads them, from a list xs of l numbers
pub newest_read : (n : ℕ) (trail : List ℕ) (records : List LevelRecord) (xs : List ℕ) (l : ℕ) → xs ≡ trail → l ≡ length trail → length trail ≡ length records * n → 0 < length records
    → take (length xs - (l - n)) (drop (l - n) xs) ≡ newest_sets (levels_at n trail records)
newest_read n trail records xs l e f w h =
    let k : length (drop (l - n) xs) ≤ length xs - (l - n) = omega (arith, length-drop (l - n) xs) in
    take_all (length xs - (l - n)) (drop (l - n) xs) k ∙ ap₂ (λ (i : ℕ) (t : List ℕ). drop (i - n) t) f e ∙ newest_sets_are n trail records w h

pub newest_length : (n : ℕ) (trail : List ℕ) (records : List LevelRecord) → length trail ≡ length records * n → 0 < length records → length (newest_sets (levels_at n trail records)) ≡ n
newest_length n trail records w h =
    let k = place_of_newest n (length records) (length trail) w h in
    ap (λ ls. length (newest_sets ls)) (levels_some n trail records h)
    ∙ length-take-le n (drop ((length records - 1) * n) trail) (omega (arith, k, length-drop ((length records - 1) * n) trail))

-- ---- the node that is opened next

-- a value taken out of the newest level leaves its sets
pub newest_tried : (ls : List Level) → newest_sets (next_levels ls) ≡ newest_sets ls
newest_tried [] = refl
newest_tried (l ∷ ls) = refl

-- its sets are those of the newest level, with its voice at the least value left
pub next_are : (n : ℕ) (trail : List ℕ) (records : List LevelRecord) (voices sets : List ℕ) (l : LevelRecord) (x : ℕ) → 0 < length records
    → sets ≡ newest_sets (levels_at n trail records) → l ≡ get_or records (length records - 1) no_record → x ≡ only (least l.left)
    → set sets l.voice x ≡ next_sets voices (levels_at n trail records)
next_are n trail records voices sets l x h e r f =
    let here : sets ≡ take n (drop ((length records - 1) * n) trail) = e ∙ ap newest_sets (levels_some n trail records h) in
    ap₂ (λ (s : List ℕ) (y : ℕ). set s l.voice y) here f
    ∙ ap (λ (k : LevelRecord). set (take n (drop ((length records - 1) * n) trail)) k.voice (only (least k.left))) r
    ∙ sym (ap (next_sets voices) (levels_some n trail records h))

-- ---- levels that a step leaves alone

-- the sets below a place
sets_same : (a n b : ℕ) (trail other : List ℕ) → a + n ≤ b → take b other ≡ take b trail → take n (drop a other) ≡ take n (drop a trail)
sets_same a n b trail other h e =
    let f : take (a + n) other ≡ take (a + n) trail = sym (take-take (a + n) b other h) ∙ ap (take (a + n)) e ∙ take-take (a + n) b trail h in
    sym (drop-take a n other) ∙ ap (drop a) f ∙ drop-take a n trail

abbrev level : List ℕ → LevelRecord → Level
level s k = record { sets = s; voice = k.voice; left = k.left }

level_same : (n : ℕ) (trail other : List ℕ) (records after : List LevelRecord) (d : ℕ) → take n (drop (d * n) other) ≡ take n (drop (d * n) trail) → get_or after d no_record ≡ get_or records d no_record
    → level_at n other after d ≡ level_at n trail records d
level_same n trail other records after d e f =
    ap₂ (λ (s : List ℕ) (k : LevelRecord). level s k) e f

levels_same : (n : ℕ) (trail other : List ℕ) (records after : List LevelRecord) (d : ℕ) → take (d * n) other ≡ take (d * n) trail
    → ((i : ℕ) → i < d → get_or after i no_record ≡ get_or records i no_record) → first_levels n other after d ≡ first_levels n trail records d
levels_same n trail other records after zero e f = refl
levels_same n trail other records after (suc d) e f =
    let k : d * n + n ≤ suc d * n = omega (arith, suc-mul d n) in
    let j : d * n ≤ suc d * n = omega (arith, suc-mul d n) in
    let t : take (d * n) other ≡ take (d * n) trail = sym (take-take (d * n) (suc d * n) other j) ∙ ap (take (d * n)) e ∙ take-take (d * n) (suc d * n) trail j in
    ap₂ (λ (l : Level) (ls : List Level). l ∷ ls) (level_same n trail other records after d (sets_same (d * n) n (suc d * n) trail other k e) (f d (omega arith)))
    (levels_same n trail other records after d t (λ i h. f i (omega arith)))

-- ---- one level more

pub levels_push : (n : ℕ) (trail s : List ℕ) (records : List LevelRecord) (x : LevelRecord) → length trail ≡ length records * n → length s ≡ n
    → levels_at n (trail ++ s) (records ++ (x ∷ [])) ≡ record { sets = s; voice = x.voice; left = x.left } ∷ levels_at n trail records
levels_push n trail s records x e w =
    let d = length records in
    let p : length (records ++ (x ∷ [])) ≡ suc (length records) = omega (arith, length_push records x) in
    let here : take n (drop (length records * n) (trail ++ s)) ≡ s = ap (take n) (drop_at trail s (length records * n) e) ∙ take_all n s (omega arith) in
    let top : get_or (records ++ (x ∷ [])) (length records) no_record ≡ x = get_or_push records x no_record (length records) refl in
    let rest : take (length records * n) (trail ++ s) ≡ take (length records * n) trail = take_at trail s (length records * n) e ∙ sym (take_all (length records * n) trail (omega arith)) in
    ap (first_levels n (trail ++ s) (records ++ (x ∷ []))) p
    ∙ ap₂ (λ (a : Level) (ls : List Level). a ∷ ls) (ap₂ (λ (a : List ℕ) (k : LevelRecord). level a k) here top)
    (levels_same n trail (trail ++ s) records (records ++ (x ∷ [])) (length records) rest (λ i h. get_or_append_left records (x ∷ []) no_record i h))

pub voiced_push : (n : ℕ) (records : List LevelRecord) (x : LevelRecord) → length records ≤ x.voice → x.voice < n → Voiced n records → Voiced n (records ++ (x ∷ []))
voiced_push n records x j k w = λ i o. ⊎_elim
    (λ b. subst (λ (m : LevelRecord). (i ≤ m.voice) × (m.voice < n)) (sym (get_or_append_left records (x ∷ []) no_record i b)) (w i b))
    (λ b. let e : length records ≡ i = omega (arith, length_push records x) in
    subst (λ (m : LevelRecord). (i ≤ m.voice) × (m.voice < n)) (sym (get_or_push records x no_record i e)) (omega arith, k))
    (cases_lt i (length records))

-- ---- one level fewer

pub levels_pop : (n : ℕ) (trail : List ℕ) (records : List LevelRecord) → length trail ≡ length records * n → 0 < length records
    → levels_at n (take (length trail - n) trail) (take (length records - 1) records) ≡ without_newest (levels_at n trail records)
levels_pop n trail records e h =
    let d = length records - 1 in
    let p : length (take (length records - 1) records) ≡ length records - 1 = length-take-le (length records - 1) records (omega arith) in
    let k : (length records - 1) * n ≤ length trail - n = omega (arith, place_of_newest n (length records) (length trail) e h) in
    ap (first_levels n (take (length trail - n) trail) (take (length records - 1) records)) p
    ∙ levels_same n trail (take (length trail - n) trail) records (take (length records - 1) records) (length records - 1)
    (take-take ((length records - 1) * n) (length trail - n) trail k) (λ i b. get_or-take (length records - 1) records i no_record b)
    ∙ sym (ap without_newest (levels_some n trail records h))

pub voiced_take : (n k : ℕ) (records : List LevelRecord) → k ≤ length records → Voiced n records → Voiced n (take k records)
voiced_take n k records h v = λ i o.
    let b : i < k = omega (arith, length-take-le k records h) in
    subst (λ (m : LevelRecord). (i ≤ m.voice) × (m.voice < n)) (sym (get_or-take k records i no_record b)) (v i (omega arith))

-- ---- a value taken out of the newest level

-- the record without the value that is tried next
abbrev pub record_taken : LevelRecord → LevelRecord
record_taken l = record { voice = l.voice; left = l.left - only (least l.left) }

pub levels_tried : (n : ℕ) (trail : List ℕ) (records after : List LevelRecord) → 0 < length records
    → after ≡ set records (length records - 1) (record_taken (get_or records (length records - 1) no_record))
    → levels_at n trail after ≡ next_levels (levels_at n trail records)
levels_tried n trail records after h t =
    let r = record_taken (get_or records (length records - 1) no_record) in
    let p : length after ≡ suc (length records - 1) = ap length t ∙ length-set records (length records - 1) r ∙ omega arith in
    let top : get_or after (length records - 1) no_record ≡ record_taken (get_or records (length records - 1) no_record) =
    ap (λ (y : List LevelRecord). get_or y (length records - 1) no_record) t ∙ get_or-set_same records (length records - 1) r no_record (omega arith) in
    let rest : (a : ℕ) → a < length records - 1 → get_or after a no_record ≡ get_or records a no_record =
    λ a b. let ne : a ≢ length records - 1 = omega arith in ap (λ (y : List LevelRecord). get_or y a no_record) t ∙ get_or-set_other records (length records - 1) a r no_record ne
    in
    ap (first_levels n trail after) p
    ∙ ap₂ (λ (a : Level) (b : List Level). a ∷ b) (ap (λ (y : LevelRecord). level (take n (drop ((length records - 1) * n) trail)) y) top)
    (levels_same n trail trail records after (length records - 1) refl rest)
    ∙ sym (ap next_levels (levels_some n trail records h))
