-- The levels of a search under way: what each says of the placings, and what opening a child or failing below does to that.
use Rattle.std.proofs.Common.{◌≡◌, ℕ, zero, suc, ◌+◌, ◌-◌, ◌^◌, ◌<◌, ◌≤◌, Bool, true, false, ◌&&◌, ◌||◌, ◌⊎◌, List, [], ◌∷◌, length, get_or, drop, sym, refl, ap, ◌∙◌, subst, inl, inr, arith}
use Rattle.std.proofs.lemmas.Bool.{both_ways, cases_Bool, cases_lt, cases_eq, cases_order, or_cases}
use Rattle.std.proofs.lemmas.List.{length-set, get_or-set_same, get_or-set_other, length-drop, get_or-drop}
use Rattle.sets.specs.Laws.{Part}
use Rattle.sets.proofs.Membership.{part_below}
use Rattle.sets.specs.Sets.{has, fixed, least, only}
use Rattle.sets.specs.Placings.{all_fixed, Proper, Within, Narrower, Lesser, same}
use Rattle.rows.specs.Rows.{RowData, Meaning}
use Rattle.stores.specs.Keys.{key}
use Rattle.stores.specs.Stores.{is_held, View}
use Rattle.search.specs.Search.{Level, Lowest, below, first_open, level_of, child, taken}
use Rattle.rows.specs.Placed.{AllHold}
use Rattle.search.proofs.SetParts.{Rest, rest, under, pinned, part_fixed, fixed_one, only_has, only_is, only_bounds}
use Rattle.search.proofs.Boxes.{narrow_trans, within_narrow}
use Rattle.sets.proofs.Lists.{same_is}
use Rattle.search.proofs.PropagationFacts.{Narrowed}
use Rattle.search.proofs.KeyFacts.{Fails, alike}

-- ---- the first open voice

pub first_by : (s : List ℕ) (i : ℕ) → all_fixed s ≡ false → (k : ℕ) × (first_open i s ≡ i + k) × Lowest s k
first_by [] i e = absurd (both_ways true e refl)
first_by (x ∷ s) i e =
    elim (cases_Bool (fixed x)) [
      | inl f ↦
          let rests : all_fixed s ≡ false = sym (ap (λ (b : Bool). b && all_fixed s) f) ∙ e in
          let (k, a, h) = first_by s (suc i) rests in
          (suc k, ap (λ (b : Bool). elim b [ true ↦ first_open (suc i) s | false ↦ i ]) f ∙ a ∙ omega arith, record { inside = omega (arith, h.inside); free = h.free; before = before x s k f h.before })
      | inr f ↦
          (zero, ap (λ (b : Bool). elim b [ true ↦ first_open (suc i) s | false ↦ i ]) f ∙ omega arith, record { inside = omega arith; free = f; before = λ j l. absurd (omega arith) })
    ]
  where
    before : (x : ℕ) (s : List ℕ) (k : ℕ) → fixed x ≡ true → ((j : ℕ) → j < k → fixed (get_or s j 0) ≡ true) → (j : ℕ) → j < suc k → fixed (get_or (x ∷ s) j 0) ≡ true
    before x s k f h zero l = f
    before x s k f h (suc j) l = h j (omega arith)

-- the voices below k are fixed
abbrev pub FixedBelow : ℕ → List ℕ → Type 0
FixedBelow k s = (j : ℕ) → j < k → fixed (get_or s j 0) ≡ true

pub first_ok : (k : ℕ) (s : List ℕ) → FixedBelow k s → all_fixed (drop k s) ≡ false → Lowest s (first_open k (drop k s))
first_ok k s f e =
    let (i, a, h) = first_by (drop k s) k e in
    subst (Lowest s) (sym a)
    (record {
      inside = omega (arith, h.inside, length-drop k s);
      free = subst (λ (x : ℕ). fixed x ≡ false) (get_or-drop k s i 0) h.free;
      before = λ j l. elim (cases_lt j k) [
        | inl b ↦ f j b
        | inr b ↦
            subst (λ (x : ℕ). fixed (get_or s x 0) ≡ true) (omega arith)
            (subst (λ (x : ℕ). fixed x ≡ true) (get_or-drop k s (j - k) 0) (h.before (j - k) (omega arith)))
      ];
    })

-- where the voices below k are fixed, it is enough to look at the others
pub fixed_drop : (k : ℕ) (s : List ℕ) → FixedBelow k s → all_fixed (drop k s) ≡ all_fixed s
fixed_drop zero s f = refl
fixed_drop (suc k) [] f = refl
fixed_drop (suc k) (x ∷ s) f = fixed_drop k s (λ j l. f (suc j) (omega arith)) ∙ sym (ap (λ (b : Bool). b && all_fixed s) (f 0 (omega arith)))

lowest_one : (s : List ℕ) (i j : ℕ) → Lowest s i → Lowest s j → i ≡ j
lowest_one s i j a b =
    elim (cases_order i j) [
      | inl e ↦ e
      | inr h ↦ elim h [
        | inl l ↦ absurd (both_ways (fixed (get_or s i 0)) a.free (b.before i l))
        | inr l ↦ absurd (both_ways (fixed (get_or s j 0)) b.free (a.before j l))
      ]
    ]

pub first_same : (k : ℕ) (s : List ℕ) → FixedBelow k s → all_fixed s ≡ false → first_open k (drop k s) ≡ first_open 0 s
first_same k s f e =
    lowest_one s (first_open k (drop k s)) (first_open 0 s) (first_ok k s f (fixed_drop k s f ∙ e)) (first_ok 0 s (λ j l. absurd (omega arith)) e)

-- ---- levels

-- a level by itself, with n voices
pub record Sits (n : ℕ) (l : Level) : Type 0 where
  pub proper : Proper l.sets
  pub long : length l.sets ≡ n
  pub first : Lowest l.sets l.voice
  pub part : Part l.left (get_or l.sets l.voice 0)

-- a level and the box of the child that is being searched: the value that the child fixes, below all that are left to try; and each placing for
-- which all rows hold has a value that is left to try or is in the box
pub record Tied (m : Meaning) (rows : List RowData) (l : Level) (box : List ℕ) : Type 0 where
  pub value : ℕ
  pub narrow : Narrower box l.sets
  pub at : (v : ℕ) → has (get_or box l.voice 0) v ≡ true → v ≡ value
  pub above : (w : ℕ) → has l.left w ≡ true → value < w
  pub covers : (p : List ℕ) → Within p l.sets → AllHold m rows p → (has l.left (get_or p l.voice 0) ≡ true) ⊎ Within p box

-- the newest level, no child of which is being searched
abbrev pub Newest : Meaning → List RowData → Level → Type 0
Newest m rows l = (p : List ℕ) → Within p l.sets → AllHold m rows p → has l.left (get_or p l.voice 0) ≡ true

-- the keys of these levels are not held
abbrev pub Unheld : Meaning → List RowData → View → List Level → Type 0
Unheld m rows v [] = Unit {0}
Unheld m rows v (l ∷ ls) = (is_held (key m rows l.sets) v.held ≡ false) × Unheld m rows v ls

-- a set of a child
child_at : (l : Level) (i : ℕ) → l.voice < length l.sets
    → ((i ≡ l.voice) × (get_or (child l) i 0 ≡ only (least l.left))) ⊎ (get_or (child l) i 0 ≡ get_or l.sets i 0)
child_at l i h =
    elim (cases_eq i l.voice) [
      | inl e ↦ inl (e, ap (λ (j : ℕ). get_or (child l) j 0) e ∙ get_or-set_same l.sets l.voice (only (least l.left)) 0 h)
      | inr e ↦ inr (get_or-set_other l.sets l.voice i (only (least l.left)) 0 e)
    ]

module _ (m : Meaning) (rows : List RowData) (voices : List ℕ) where
  -- the levels above which the box is being searched, the newest first
  abbrev pub Chain : List Level → List ℕ → Type 0
  Chain [] box = Narrowed m rows voices box
  Chain (l ∷ ls) box = Sits (length voices) l × Tied m rows l box × (length ls ≤ l.voice) × Chain ls l.sets

  -- a search under way, before its next child is opened
  pub record Going (l : Level) (ls : List Level) : Type 0 where
    pub sits : Sits (length voices) l
    pub newest : Newest m rows l
    pub depth : length ls ≤ l.voice
    pub chain : Chain ls l.sets

  pub chain_narrow : (ls : List Level) (box b : List ℕ) → Narrowed m rows box b → Chain ls box → Chain ls b
  chain_narrow [] box b n c =
      record { narrow = narrow_trans b box voices n.narrow c.narrow; keeps = λ p w h. n.keeps p (c.keeps p w h) h }
  chain_narrow (l ∷ ls) box b n c =
      let t = c.1 in (
        c.0,
        record {
          value = t.value;
          narrow = narrow_trans b box l.sets n.narrow t.narrow;
          at = λ v h. t.at v (n.narrow.each l.voice v h);
          above = t.above;
          covers = λ p w h. elim (t.covers p w h) [ inl k ↦ inl k | inr k ↦ inr (n.keeps p k h) ];
        },
        c.2,
        c.3,
      )

  pub chain_inside : (ls : List Level) (box : List ℕ) → Chain ls box → Narrower box voices
  chain_inside [] box c = c.narrow
  chain_inside (l ∷ ls) box c = narrow_trans box l.sets voices c.1.narrow (chain_inside ls l.sets c.3)

  -- a placing for which all rows hold is in the box, or any placing in the box is lesser
  pub chain_least : (ls : List Level) (box p q : List ℕ) → Chain ls box → Within p box → Within q voices → AllHold m rows q → Within q box ⊎ Lesser p q
  chain_least [] box p q c w u h = inl (c.keeps q u h)
  chain_least (l ∷ ls) box p q c w u h =
      let s = c.0 in
      let t = c.1 in
      let v = within_narrow p box l.sets t.narrow w in
      elim (chain_least ls l.sets p q c.3 v u h) [
        | inr k ↦ inr k
        | inl k ↦ elim (t.covers q k h) [
          | inr b ↦ inl b
          | inl b ↦ inr (record {
            at = l.voice;
            inside = omega (arith, s.first.inside, v.long);
            before = λ j g.
                fixed_one (get_or l.sets j 0) (get_or p j 0) (get_or q j 0) (s.proper j (omega (arith, s.first.inside))).1 (s.first.before j g)
                (v.each j (omega (arith, s.first.inside))) (k.each j (omega (arith, s.first.inside)));
            less = omega (arith, t.above (get_or q l.voice 0) b, t.at (get_or p l.voice 0) (w.each l.voice (omega (arith, s.first.inside, t.narrow.long))));
          })
        ]
      ]

  -- up to the voice of the level below it all of the box is fixed
  tied_fixed : (l : Level) (box : List ℕ) → Sits (length voices) l → Tied m rows l box → Proper box → (i : ℕ) → i ≤ l.voice → fixed (get_or box i 0) ≡ true
  tied_fixed l box s t p i le =
      let b : i < length box = omega (arith, s.first.inside, t.narrow.long) in
      elim (cases_eq i l.voice) [
        | inl e ↦ pinned (get_or box i 0) t.value (p i b).0 (p i b).1 (subst (λ (j : ℕ). (v : ℕ) → has (get_or box j 0) v ≡ true → v ≡ t.value) (sym e) t.at)
        | inr e ↦ part_fixed (get_or box i 0) (get_or l.sets i 0) (t.narrow.each i) (p i b).0 (p i b).1 (s.proper i (omega (arith, s.first.inside))).1 (s.first.before i (omega arith))
      ]

  chain_depth : (ls : List Level) (box : List ℕ) (k : ℕ) → Chain ls box → Proper box → Lowest box k → length ls ≤ k
  chain_depth [] box k c p f = omega arith
  chain_depth (l ∷ ls) box k c p f =
      elim (cases_lt l.voice k) [
        | inl h ↦ omega (arith, c.2)
        | inr h ↦ absurd (both_ways (fixed (get_or box k 0)) f.free (tied_fixed l box c.0 c.1 p k h))
      ]

  -- the voices below the newest level's and that voice are fixed in every node under it
  pub chain_fixed : (ls : List Level) (box : List ℕ) → Chain ls box → Proper box → FixedBelow (below ls) box
  chain_fixed [] box c p j h = absurd (omega arith)
  chain_fixed (l ∷ ls) box c p j h = tied_fixed l box c.0 c.1 p j (omega arith)

  -- a node that branches
  pub branch_going : (ls : List Level) (box : List ℕ) → Chain ls box → Proper box → all_fixed (drop (below ls) box) ≡ false → Going (level_of (below ls) box) ls
  branch_going ls box c p f =
      let first = first_ok (below ls) box (chain_fixed ls box c p) f in
      record {
        sits = record { proper = p; long = (chain_inside ls box c).long; first = first; part = λ v h. h };
        newest = λ q w h. w.each (first_open (below ls) (drop (below ls) box)) first.inside;
        depth = chain_depth ls box (first_open (below ls) (drop (below ls) box)) c p first;
        chain = c;
      }

  pub left_bound : (l : Level) (ls : List Level) → Going l ls → l.left < 2 ^ 64
  left_bound l ls g =
      part_below 64 l.left (get_or l.sets l.voice 0) (g.sits.proper l.voice g.sits.first.inside).1 g.sits.part

  -- the next child of the newest level
  pub child_chain : (l : Level) (ls : List Level) → Going l ls → 0 < l.left → Chain (taken l ∷ ls) (child l) × Proper (child l)
  child_chain l ls g pos =
      let s = g.sits in (
        (
          record { proper = s.proper; long = s.long; first = s.first; part = λ v h. s.part v (r.part v h).0 },
          record { value = least l.left; narrow = narrow; at = at; above = λ w h. (r.part w h).1; covers = covers },
          g.depth,
          g.chain,
        ),
        proper,
      )
    where
      inside : l.voice < length l.sets
      inside = g.sits.first.inside

      bound : l.left < 2 ^ 64
      bound = left_bound l ls g

      r : Rest l.left (least l.left)
      r = rest l.left pos bound

      narrow : Narrower (child l) l.sets
      narrow = record {
        long = length-set l.sets l.voice (only (least l.left));
        each = λ i v h. elim (child_at l i inside) [
          | inl e ↦
              let is = only_is (least l.left) v (subst (λ (y : ℕ). has y v ≡ true) e.1 h) in
              subst (λ (y : ℕ). has (get_or l.sets y 0) v ≡ true) (sym e.0)
              (g.sits.part v (subst (λ (y : ℕ). has l.left y ≡ true) (sym is) r.first))
          | inr e ↦ subst (λ (y : ℕ). has y v ≡ true) e h
        ];
      }

      voice_is : get_or (child l) l.voice 0 ≡ only (least l.left)
      voice_is = get_or-set_same l.sets l.voice (only (least l.left)) 0 inside

      at : (v : ℕ) → has (get_or (child l) l.voice 0) v ≡ true → v ≡ least l.left
      at v h = only_is (least l.left) v (subst (λ (y : ℕ). has y v ≡ true) voice_is h)

      covers : (p : List ℕ) → Within p l.sets → AllHold m rows p → (has (taken l).left (get_or p l.voice 0) ≡ true) ⊎ Within p (child l)
      covers p w h =
          elim (r.whole (get_or p l.voice 0) (g.newest p w h)) [
            | inr k ↦ inl k
            | inl k ↦ inr (record {
              long = w.long ∙ sym narrow.long;
              each = λ i b. elim (child_at l i inside) [
                | inl e ↦
                    subst (λ (y : ℕ). has y (get_or p i 0) ≡ true) (sym e.1)
                    (subst (λ (y : ℕ). has (only (least l.left)) y ≡ true) (sym (ap (λ (j : ℕ). get_or p j 0) e.0 ∙ k)) (only_has (least l.left)))
                | inr e ↦ subst (λ (y : ℕ). has y (get_or p i 0) ≡ true) (sym e) (w.each i (omega (arith, narrow.long)))
              ];
            })
          ]

      proper : Proper (child l)
      proper i b =
          elim (child_at l i inside) [
            | inl e ↦ subst (λ (y : ℕ). (0 < y) × (y < 2 ^ 64)) (sym e.1) (only_bounds (least l.left) (under l.left (least l.left) bound r.first))
            | inr e ↦ subst (λ (y : ℕ). (0 < y) × (y < 2 ^ 64)) (sym e) (g.sits.proper i (omega (arith, narrow.long)))
          ]

  -- below these levels the key of another node is none of theirs
  pub unheld_after : (ls : List Level) (box c : List ℕ) (v w : View) → Chain ls box → Narrower c box → Proper c
      → ((x : List ℕ) → is_held x w.held ≡ true → (same x (key m rows c) || is_held x v.held) ≡ true) → Unheld m rows v ls → Unheld m rows w ls
  unheld_after [] box c v w k n p h u = tt
  unheld_after (l ∷ ls) box c v w k n p h u =
      let s = k.0 in
      let t = k.1 in
      let nc = narrow_trans c box l.sets n t.narrow in
      let shut : fixed (get_or c l.voice 0) ≡ true =
      pinned (get_or c l.voice 0) t.value (p l.voice (omega (arith, s.first.inside, nc.long))).0 (p l.voice (omega (arith, s.first.inside, nc.long))).1 (λ y b. t.at y (n.each l.voice y b)) in (
        elim (cases_Bool (is_held (key m rows l.sets) w.held)) [
          | inr z ↦ z
          | inl z ↦ elim (or_cases (same (key m rows l.sets) (key m rows c)) (is_held (key m rows l.sets) v.held) (h (key m rows l.sets) z)) [
            | inl e ↦
                let like = alike m rows l.sets c s.proper p (sym nc.long) (same_is (key m rows l.sets) (key m rows c) e) in
                absurd (both_ways (fixed (get_or l.sets l.voice 0)) s.first.free (like.same_fixed l.voice ∙ shut))
            | inr e ↦ absurd (both_ways (is_held (key m rows l.sets) v.held) u.0 e)
          ]
        ],
        unheld_after ls l.sets c v w k.3 nc p h u.1,
      )

  -- a level with nothing left to try below which the box fails
  pub back_newest : (l : Level) (ls : List Level) (box : List ℕ) → Chain (l ∷ ls) box → Fails m rows box → Going l ls
  back_newest l ls box c f = record {
    sits = c.0;
    newest = λ p w h. elim (c.1.covers p w h) [ inl k ↦ k | inr k ↦ absurd (f p k h) ];
    depth = c.2;
    chain = c.3;
  }
