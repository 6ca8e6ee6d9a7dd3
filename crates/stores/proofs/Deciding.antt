-- Of the shelf and the bare store nothing is open.
use Rattle.std.proofs.Common.{refl}
use Rattle.stores.specs.Behaviours.{Decided}
use Rattle.stores.specs.Bare.{bare}
use Rattle.stores.specs.Shelves.{shelf_emptied, shelf_answer, shelf_after}
use Rattle.stores.specs.ShelfLaws.{shelf}
use Rattle.stores.specs.declared.store.Stored.TheVariants.{Lost}

abbrev pub shelf_decided : Decided shelf
shelf_decided = record {
  emptied = shelf_emptied;
  answer = shelf_answer;
  after = shelf_after;
  empties = λ s. refl;
  keeps = λ s k. (refl, refl);
  emptied_only = λ s t h. h;
  answer_only = λ s t k a h. h.0;
  after_only = λ s t k a h. h.1;
}

abbrev pub bare_decided : Decided bare
bare_decided = record {
  emptied = λ s. tt;
  answer = λ s k. Lost;
  after = λ s k. tt;
  empties = λ s. tt;
  keeps = λ s k. refl;
  emptied_only = λ s t h. refl;
  answer_only = λ s t k a h. h;
  after_only = λ s t k a h. refl;
}
