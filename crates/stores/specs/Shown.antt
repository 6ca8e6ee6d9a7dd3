-- What a shelf's fields say.
use Rattle.std.specs.Prelude.{ℕ, ◌-◌, List, length, take}
use Rattle.stores.specs.declared.shelf.Shelf.{Shelf}
use Rattle.stores.specs.Shelves.{room_of, ShelfState, shelf_state}

-- the words that hold keys, and how many may
abbrev pub used_words : Shelf → List ℕ
used_words s = take s.used s.words.now

abbrev pub room : Shelf → ℕ
room s = room_of (length s.words.now)

abbrev pub shelf_state_of : Shelf → ShelfState
shelf_state_of s = shelf_state (used_words s) (room s)

-- how many words a key may have that fits
abbrev pub free_words : Shelf → ℕ
free_words s = room s - length (used_words s) - 1
