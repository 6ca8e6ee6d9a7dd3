use Rattle.std.proofs.Common.{◌≡◌, false, sym, ap, ◌∙◌, arith}
use Rattle.stores.specs.Stores.{fits_space}
use Rattle.stores.specs.Shown.{used_words, room, shelf_state_of}
use Rattle.stores.proofs.Keeping.{turned_away}
use Rattle.stores.proofs.Shelving.{space_free}
use Rattle.stores.proofs.shelf.ShelfStore.turns_away.Goals as goal

pub returns-clause-turned : goal.returns-clause-turned
returns-clause-turned c h =
    let s = c.args.self.now in
    let short : c.fits.result ≡ false = grind arith in
    turned_away (shelf_state_of s) c.args.words (ap (fits_space c.args.words) (space_free (used_words s) (room s) s.whole) ∙ sym c.fits.ensures ∙ short)
