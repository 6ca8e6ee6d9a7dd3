-- The shelf: keys one after the other in borrowed words, each behind a header word.
use Rattle.std.specs.Prelude.{◌≡◌, ℕ, zero, suc, ◌+◌, ◌-◌, ◌*◌, ◌/◌, ◌%◌, ◌^◌, ◌<◌, min, cond, nat_eq, List, [], ◌∷◌, ◌++◌, length, take, drop, reverse, slice_index}
use Rattle.stores.specs.Stores.{View, is_held, fits_space}
use Rattle.stores.specs.declared.store.Stored.{Stored}
use Rattle.stores.specs.declared.store.Stored.TheVariants.{Kept, Lost}

-- of borrowed words the first 65,536 at most are used
abbrev pub room_of : ℕ → ℕ
room_of words = min words 65536

-- one word more in a hash of 64 bits
abbrev pub mixed : ℕ → ℕ → ℕ
mixed h w = ((h + w) * 0x9E3779B97F4A7C15) % 2 ^ 64

-- a hash of the key's words, four at a time
abbrev pub hash_from : ℕ → List ℕ → ℕ
hash_from h [] = h
hash_from h (a ∷ (b ∷ (c ∷ (d ∷ ws)))) =
    hash_from
    ((mixed h a + b * 0xC2B2AE3D27D4EB4F + c * 0x165667B19E3779F9 + d * 0xD6E8FEB86659FD93) % 2 ^ 64) ws
hash_from h (w ∷ ws) = hash_from (mixed h w) ws

abbrev pub hash_of : List ℕ → ℕ
hash_of k = hash_from 0 k

-- of 1,024 buckets the one that a key is in, by the high bits of its hash
abbrev pub bucket : List ℕ → ℕ
bucket k = hash_of k / 2 ^ 54

-- the header of a key: its length in the low 16 bits, then a link in 16, above them the high 32
-- bits of its hash
abbrev pub header : ℕ → List ℕ → ℕ
header link k = hash_of k / 2 ^ 32 * 2 ^ 32 + link * 65536 + length k

-- Keys as they lie in words, one behind the other; here they are listed the newest first.

-- how many words they take
abbrev pub words_of : List (List ℕ) → ℕ
words_of [] = 0
words_of (k ∷ older) = words_of older + (1 + length k)

-- where the header of the newest key of this bucket lies, counted from 1, or 0 if there is none
abbrev pub newest : ℕ → List (List ℕ) → ℕ
newest b [] = 0
newest b (k ∷ older) = cond (nat_eq (bucket k) b) (words_of older + 1) (newest b older)

-- a key behind its header, which links it to the key of its bucket before it
abbrev pub shelf_entry : List (List ℕ) → List ℕ → List ℕ
shelf_entry older k = header (newest (bucket k) older) k ∷ k

abbrev pub words_written : List (List ℕ) → List ℕ
words_written [] = []
words_written (k ∷ older) = words_written older ++ shelf_entry older k

-- the keys that these words hold, the oldest first; the number bounds them
abbrev pub keys_in : ℕ → List ℕ → List (List ℕ)
keys_in zero ws = []
keys_in (suc n) [] = []
keys_in (suc n) (h ∷ ws) = take (h % 65536) ws ∷ keys_in n (drop (h % 65536) ws)

abbrev pub shelved_keys : List ℕ → List (List ℕ)
shelved_keys ws = keys_in (length ws) ws

-- the same, the newest first
abbrev pub recent_keys : List ℕ → List (List ℕ)
recent_keys ws = reverse (shelved_keys ws)

-- the words are whole keys behind their headers
abbrev pub Whole : List ℕ → Type 0
Whole ws = words_written (recent_keys ws) ≡ ws

-- each head is the place of its bucket's newest key
abbrev pub Indexed : List ℕ → List ℕ → Type 0
Indexed heads ws = (b : ℕ) → b < 1024 → slice_index heads b ≡ newest b (recent_keys ws)

-- a shelf, by the keys that it holds, the oldest first, and how many words it may use
pub record ShelfState : Type 0 where
  pub held : List (List ℕ)
  pub room : ℕ

-- the state of a shelf with these words used
abbrev pub shelf_state : List ℕ → ℕ → ShelfState
shelf_state used room = record { held = shelved_keys used; room = room }

-- each key takes a word more than its own, and so would the next
abbrev pub shelf_view : ShelfState → View
shelf_view s = record { held = s.held; space = s.room - words_of s.held - 1 }

abbrev pub shelf_emptied : ShelfState → ShelfState
shelf_emptied s = record { held = []; room = s.room }

-- what Keep answers and leaves: a held key moves nothing, one that fits goes behind the others, a
-- lost one alters nothing
abbrev pub shelf_answer : ShelfState → List ℕ → Stored
shelf_answer s k =
    cond (is_held k s.held) Kept (cond (fits_space (length k) (shelf_view s).space) Kept Lost)

abbrev pub shelf_after : ShelfState → List ℕ → ShelfState
shelf_after s k =
    cond (is_held k s.held) s
    (cond (fits_space (length k) (shelf_view s).space)
    (record { held = s.held ++ (k ∷ []); room = s.room }) s)

-- and the words that are used then
abbrev pub used_after : List ℕ → ℕ → List ℕ → List ℕ
used_after used room k =
    cond (is_held k (shelved_keys used)) used
    (cond (fits_space (length k) (room - length used - 1))
    (used ++ shelf_entry (recent_keys used) k) used)
