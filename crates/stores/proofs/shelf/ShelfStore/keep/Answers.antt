use Rattle.std.proofs.Common.{length, sym, ap, ◌∙◌, subst, arith}
use Rattle.std.proofs.lemmas.List.{length-take-le}
use Rattle.stores.specs.Stores.{fits_space}
use Rattle.stores.specs.Shelves.{ShelfState}
use Rattle.stores.specs.ShelfLaws.{shelf}
use Rattle.stores.specs.Shown.{used_words, room, shelf_state_of}
use Rattle.stores.specs.declared.store.Stored.TheVariants.{Kept}
use Rattle.stores.proofs.Keeping.{keeps_held, keeps_more, keeps_lost}
use Rattle.stores.proofs.Shelving.{space_free, state_more}
use Rattle.stores.proofs.shelf.ShelfStore.keep.Goals as goal

pub returns-then-holds-clause-keeps : goal.returns-then-holds-clause-keeps
returns-then-holds-clause-keeps c = keeps_held (shelf_state_of c.args.self.now) c.args.key.now (sym c.if-holds.ensures)

pub returns-then-not-fits-clause-keeps : goal.returns-then-not-fits-clause-keeps
returns-then-not-fits-clause-keeps c =
    let s = c.args.self.now in
    keeps_lost (shelf_state_of s) c.args.key.now (sym c.if-holds.ensures)
    (ap (fits_space (length c.args.key.now)) (space_free (used_words s) (room s) s.whole) ∙ sym c.if-not-fits.ensures)

pub returns-clause-keeps : goal.returns-clause-keeps
returns-clause-keeps c =
    let s = c.args.self.now in
    let k = c.args.key.now in
    let long = length-take-le c.args.self.now.used c.args.self.now.words.now (omega (arith, c.args.self.now.within)) in
    subst (λ (t : ShelfState). shelf.keeps (shelf_state_of c.args.self.now) c.args.key.now Kept t)
    (sym (state_more (used_words s) (used_words c.add.new.self) c.add.new.self.words.now s.words.now k s.whole
    (omega (arith, long, c.args.self.now.within)) (sym c.if-not-fits.ensures) c.add.ensures.used c.add.ensures.words))
    (keeps_more (shelf_state_of s) k (sym c.if-holds.ensures) (ap (fits_space (length k)) (space_free (used_words s) (room s) s.whole) ∙ sym c.if-not-fits.ensures))
