use Rattle.std.proofs.Common.{◌≡◌, ℕ, ◌+◌, ◌-◌, ◌/◌, ◌%◌, ◌<◌, List, length, get_or, take, drop, sym, ap, subst, ◌∙◌, arith}
use Rattle.std.specs.Str.{bytes_eq}
use Rattle.sets.specs.Placings.{same}
use Rattle.stores.specs.Shelves.{hash_of, newest, recent_keys}
use Rattle.stores.specs.Shown.{used_words}
use Rattle.stores.specs.declared.shelf.Shelf.{Shelf}
use Rattle.stores.proofs.Shelving.{Walk, walk_begins, walk_ends, Stop, walk_stops, same_not, same_pointwise}
use Rattle.stores.proofs.shelf.Shelf.holds.Goals as goal
use Rattle.stores.proofs.shelf.Shelf.holds.Goals.{else-header-hash-via-then-header-hash+then-header-key+else-eq, else-header-hash-via-then-header-hash+else-header-key, else-header-hash-via-else-header-hash}

stop : (s : Shelf) (key : List ℕ) (at : ℕ) → Walk (used_words s) key at → 0 < at → Stop s.words.now s.used key at
stop s key at w h = walk_stops s.words.now s.used key at (omega (arith, s.within)) (omega (arith, s.within)) w h

-- the comparison with the held key
compared : (all : List ℕ) (n : ℕ) (key : List ℕ) (at : ℕ) → (p : Stop all n key at) → get_or all (at - 1) 0 % 65536 ≡ length key → same key p.held ≡ bytes_eq key (take (at + length key - at) (drop at all))
compared all n key at p h =
    let long : length p.held ≡ at + length key - at = omega (arith, h, p.fields.long) in
    ap (same key) (sym p.words ∙ ap (λ (m : ℕ). take m (drop at all)) long) ∙ same_pointwise key (take (at + length key - at) (drop at all))

pub loop-at-init : goal.loop-at-init
loop-at-init c =
    let s = c.args.self.now in
    walk_begins (used_words s) c.args.key.now (get_or s.heads (c.args.hash / 18014398509481984) 0) s.whole
    (s.indexed (c.args.hash / 18014398509481984) (omega (arith, c.ranges.hash.fits)) ∙ ap (λ (x : ℕ). newest (x / 18014398509481984) (recent_keys (used_words c.args.self.now))) c.requires)

pub offset_bounds-self-at : goal.offset_bounds-self-at
offset_bounds-self-at c =
    let p = stop c.args.self.now c.args.key.now c.loop-at.at c.loop-at.invariant c.loop-at-test.true in omega (arith, p.inside, c.args.self.now.within)

pub bounds-self-at : goal.bounds-self-at
bounds-self-at c =
    let p = stop c.args.self.now c.args.key.now c.loop-at.at c.loop-at.invariant c.loop-at-test.true in omega (arith, p.inside, c.args.self.now.within)

pub offset_bounds-self-at-then-header-key : goal.offset_bounds-self-at-then-header-key
offset_bounds-self-at-then-header-key c =
    let p = stop c.args.self.now c.args.key.now c.loop-at.at c.loop-at.invariant c.loop-at-test.true in omega (arith, p.inside, c.args.self.now.within)

pub slice_bounds-eq-end : goal.slice_bounds-eq-end
slice_bounds-eq-end c =
    let p = stop c.args.self.now c.args.key.now c.loop-at.at c.loop-at.invariant c.loop-at-test.true in
    let h = c.if-header-key.true in
    omega (arith, p.inside, p.fields.long, c.args.self.now.within)

pub returns-then-eq : goal.returns-then-eq
returns-then-eq c =
    let p = stop c.args.self.now c.args.key.now c.loop-at.at c.loop-at.invariant c.loop-at-test.true in
    p.found (compared c.args.self.now.words.now c.args.self.now.used c.args.key.now c.loop-at.at p c.if-header-key.true ∙ sym c.if-eq.ensures)

pub loop-at-smaller : goal.loop-at-smaller
loop-at-smaller c =
    let p = stop c.args.self.now c.args.key.now c.loop-at.at c.loop-at.invariant c.loop-at-test.true in
    subst (λ (x : ℕ). x < c.loop-at.at) (sym p.fields.on) p.lower

pub loop-at-preserved : goal.loop-at-preserved
loop-at-preserved c =
    let p = stop c.args.self.now c.args.key.now c.loop-at.at c.loop-at.invariant c.loop-at-test.true in
    subst (Walk (used_words c.args.self.now) c.args.key.now) (sym p.fields.on) (p.next (elim c.else-header-hash.branch [
      | else-header-hash-via-then-header-hash+then-header-key+else-eq w ↦ compared c.args.self.now.words.now c.args.self.now.used c.args.key.now c.loop-at.at p w.if-header-key.true ∙ sym w.if-eq.ensures
      | else-header-hash-via-then-header-hash+else-header-key w ↦ same_not c.args.key.now p.held (λ e. w.if-header-key.false (p.fields.long ∙ ap length (sym e)))
      | else-header-hash-via-else-header-hash w ↦ same_not c.args.key.now p.held (λ e. w.if-header-hash.false (p.fields.print ∙ ap (λ (x : List ℕ). hash_of x / 4294967296) (sym e) ∙ ap (λ (x : ℕ). x / 4294967296) (sym c.requires)))
    ]))

pub returns : goal.returns
returns c = walk_ends (used_words c.args.self.now) c.args.key.now c.loop-at.at c.loop-at.invariant c.loop-at-test.false
