use Rattle.std.proofs.Common.{◌≡◌, ℕ, ◌+◌, ◌/◌, ◌∷◌, ◌++◌, List, length, get_or, set, take, drop, sym, ◌∙◌, ap, ap₂, subst, arith}
use Rattle.std.proofs.lemmas.List.{length-take-le, length-set}
use Rattle.stores.specs.Shelves.{Whole, newest, recent_keys}
use Rattle.stores.proofs.Shelving.{headed, pushed, whole_push, indexed_push}
use Rattle.stores.proofs.shelf.Shelf.add.Goals as goal

pub invariant_of-self : goal.invariant_of-self
invariant_of-self c =
    let s = c.args.self.now in
    let k = c.args.key.now in
    let ws = take c.args.self.now.used c.args.self.now.words.now in
    let header = headed s.heads ws k c.args.hash c.requires.hash c.ranges.hash.fits s.indexed in
    let now : c.write.new.self.used + (1 + length c.args.key.now) ≡ c.args.self.now.used + 1 + length c.args.key.now = omega (arith, c.write.ensures.used) in
    let p = pushed s.words.now c.write.new.self.words.now s.used (c.write.new.self.used + (1 + length c.args.key.now)) k s.within c.requires.fits now
    (c.write.ensures.words ∙ ap (λ (h : ℕ). (take c.args.self.now.used c.args.self.now.words.now ++ (h ∷ c.args.key.now)) ++ drop (c.args.self.now.used + 1 + length c.args.key.now) c.args.self.now.words.now) header) in
    let long : length (take c.args.self.now.used c.args.self.now.words.now) ≡ c.write.new.self.used = length-take-le s.used s.words.now (omega (arith, s.within)) ∙ sym c.write.ensures.used in
    let more = indexed_push s.heads ws k c.args.hash s.whole p.short s.buckets c.requires.hash c.ranges.hash.fits s.indexed in
    record {
      within = p.within;
      whole = subst Whole (sym p.front) (whole_push ws k s.whole p.short);
      buckets = length-set c.write.new.self.heads (c.args.hash / 18014398509481984) (c.write.new.self.used + 1) ∙ ap length c.write.ensures.heads ∙ s.buckets;
      indexed = λ b h. ap₂ (λ (x : List ℕ) (n : ℕ). get_or (set x (c.args.hash / 18014398509481984) (n + 1)) b 0) c.write.ensures.heads (sym long) ∙ more b h ∙ ap (λ (x : List ℕ). newest b (recent_keys x)) (sym p.front);
    }
