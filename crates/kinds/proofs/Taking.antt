-- The kind A's loops: one member's takings, a run of them, the values of the fixed members.
use Rattle.std.proofs.Common.{◌≡◌, ℕ, suc, ◌+◌, ◌-◌, ◌^◌, ◌<◌, ◌≤◌, Bool, true, false, cond, not, ◌&&◌, ◌||◌, eqb, ◌⊎◌, List, [], ◌∷◌, ◌++◌, map, length, get_or, take, drop, sym, refl, ap, ◌∙◌, ap₂, inl, inr, arith}
use lib.Bits.{bit_or}
use lib.Count.{ones}
use lib.ListN.{length-map}
use Rattle.std.proofs.lemmas.Nat.{or_lt}
use Rattle.std.proofs.lemmas.List.{take_more, take_rest}
use Rattle.std.proofs.lemmas.Bool.{eq-eqb, ne_eqb, or_left, or_right}
use Rattle.rows.specs.declared.member.Member.{Member}
use Rattle.sets.specs.Placings.{changed}
use Rattle.std.specs.List.{list_all, list_any}
use Rattle.sets.specs.Sets.{has, fixed, least}
use Rattle.kinds.specs.Differing.{may_stay, values_taken, fixed_values, all_placed}
use Rattle.rows.specs.Shared.{at, cut, cuts, distinct}
use Rattle.rows.specs.declared.trace.Trace.TheVariants.{Settled, Open}
use Rattle.sets.proofs.Masks.{mask_is, none_mask, has_not, has_or}
use Rattle.sets.proofs.Membership.{fixed_pos, fixed_least, has_only, has_mask, mask_below, same_sets, least_below}
use Rattle.rows.proofs.Cuts.{Each, Small, cuts_small, cuts_narrower}
use Rattle.kinds.specs.DifferingLaws.{any_map, set_of, has_set_of, set_of_below, count_distinct, taken_small, taken_narrower}
use Rattle.rows.proofs.Narrowed.{cut_same, cut_whole, changed_then, cuts_more_one, cuts_flag}
use Rattle.rows.proofs.Scans.{nobody}

-- ---- one member's takings

-- the members of a fixed set
has_fixed : (s v : ℕ) → s < 2 ^ 64 → fixed s ≡ true → has s v ≡ eqb v (least s)
has_fixed s v h f = ap (λ (x : ℕ). has x v) (fixed_least s h f) ∙ has_only (least s) v

-- a member with another voice loses the values of the taker's set
other_loses : (m n : Member) (k : ℕ) (s : List ℕ) → k < 2 ^ 64 → fixed k ≡ true → (n.voice ≡ m.voice → ⊥)
    → cut n.voice (has (2 ^ 64 - 1 - k)) s ≡ cut n.voice (may_stay m k n) s
other_loses m n k s h f d = cut_same n.voice (has (2 ^ 64 - 1 - k)) (may_stay m k n) s (λ w l. has_not 64 k w h l ∙ ap not (has_fixed k w h f) ∙ sym (same w))
  where
    same : (w : ℕ) → may_stay m k n w ≡ not (eqb w (least k))
    same w = ap₂ (λ (a b : Bool). not a || (b || not (eqb w (least k)))) f (ne_eqb n.voice m.voice d)

-- one with the taker's voice loses none
own_kept : (m n : Member) (k : ℕ) (s : List ℕ) → Small s → n.voice ≡ m.voice → cut n.voice (may_stay m k n) s ≡ s
own_kept m n k s h e = cut_whole n.voice (may_stay m k n) s h
    (λ w. or_right (not (fixed k)) (eqb n.voice m.voice || not (eqb w (least k))) (or_left (eqb n.voice m.voice) (not (eqb w (least k))) (eq-eqb n.voice m.voice e)))

-- and where the taker is not fixed no member does
pub open_takes_none : (m : Member) (k : ℕ) (ms : List Member) (s : List ℕ) → Small s → fixed k ≡ false → cuts (may_stay m k) ms s ≡ s
open_takes_none m k [] s h f = refl
open_takes_none m k (n ∷ ms) s h f =
    ap (cuts (may_stay m k) ms) (cut_whole n.voice (may_stay m k n) s h (λ w. or_left (not (fixed k)) (eqb n.voice m.voice || not (eqb w (least k))) (ap not f)))
    ∙ open_takes_none m k ms s h f

-- a run of one member's takings, one member on: u are the sets before, t after, k is the taker's set
pub other_more : (m : Member) (ms : List Member) (i k : ℕ) (s u t : List ℕ) → Small s → i < length ms → k ≡ at s m → fixed k ≡ true → ((get_or ms i nobody).voice ≡ m.voice → ⊥)
    → u ≡ cuts (may_stay m (at s m)) (take i ms) s → t ≡ cut (get_or ms i nobody).voice (has (2 ^ 64 - 1 - k)) u → t ≡ cuts (may_stay m (at s m)) (take (i + 1) ms) s
other_more m ms i k s u t h l e f d a b =
    let n = get_or ms i nobody in
    b ∙ ap₂ (λ (x : ℕ) (y : List ℕ). cut n.voice (has (2 ^ 64 - 1 - x)) y) e a
    ∙ other_loses m n (at s m) (cuts (may_stay m (at s m)) (take i ms) s) (h m.voice) (sym (ap fixed e) ∙ f) d
    ∙ sym (cuts_more_one (may_stay m (at s m)) ms i nobody s l)

pub own_more : (m : Member) (ms : List Member) (i : ℕ) (s u : List ℕ) → Small s → i < length ms → (get_or ms i nobody).voice ≡ m.voice
    → u ≡ cuts (may_stay m (at s m)) (take i ms) s → u ≡ cuts (may_stay m (at s m)) (take (i + 1) ms) s
own_more m ms i s u h l d a =
    let v = cuts (may_stay m (at s m)) (take i ms) s in
    a ∙ sym (own_kept m (get_or ms i nobody) (at s m) v (cuts_small (may_stay m (at s m)) (take i ms) s h) d) ∙ sym (cuts_more_one (may_stay m (at s m)) ms i nobody s l)

-- and its flag: b is raised before, r by the one cut
pub flag_more : (f : Member → ℕ → Bool) (ms : List Member) (i : ℕ) (g : ℕ → Bool) (s u t : List ℕ) (b r : Bool) → Small s → u ≡ cuts f ms s → t ≡ cut i g u
    → b ≡ changed u s → r ≡ changed t u → (b || r) ≡ changed t s
flag_more f ms i g s u t b r h a c p q =
    ap₂ ◌||◌ (p ∙ ap (λ (x : List ℕ). changed x s) a) (q ∙ ap₂ changed e a) ∙ cuts_flag f ms s i g h ∙ ap (λ (x : List ℕ). changed x s) (sym e)
  where
    e : t ≡ cut i g (cuts f ms s)
    e = c ∙ ap (cut i g) a

-- ---- a run of takings

takes_push : (ms rest : List Member) (m : Member) (s : List ℕ) → values_taken ms (rest ++ (m ∷ [])) s ≡ cuts (may_stay m (at (values_taken ms rest s) m)) ms (values_taken ms rest s)
takes_push ms [] m s = refl
takes_push ms (n ∷ rest) m s = takes_push ms rest m (cuts (may_stay n (at s n)) ms s)

-- one member more
pub takes_more_one : (ms : List Member) (i : ℕ) (s u t : List ℕ) → i < length ms → u ≡ values_taken ms (take i ms) s
    → t ≡ cuts (may_stay (get_or ms i nobody) (at u (get_or ms i nobody))) ms u → t ≡ values_taken ms (take (i + 1) ms) s
takes_more_one ms i s u t l a b =
    let n = get_or ms i nobody in
    b ∙ ap (λ (x : List ℕ). cuts (may_stay n (at x n)) ms x) a ∙ sym (ap (λ (x : List Member). values_taken ms x s) (take_more ms i nobody l) ∙ takes_push ms (take i ms) n s)

-- and its flag
pub takes_flag : (f : Member → ℕ → Bool) (ms rest : List Member) (s u t : List ℕ) (b r : Bool) → Small s → u ≡ values_taken ms rest s → t ≡ cuts f ms u
    → b ≡ changed u s → r ≡ changed t u → (b || r) ≡ changed t s
takes_flag f ms rest s u t b r h a c p q =
    let v = values_taken ms rest s in
    ap₂ ◌||◌ (p ∙ ap (λ (x : List ℕ). changed x s) a) (q ∙ ap₂ changed e a)
    ∙ changed_then (cuts f ms v) v s (taken_small ms rest s h) h (cuts_narrower f ms v) (taken_narrower ms rest s) ∙ ap (λ (x : List ℕ). changed x s) (sym e)
  where
    e : t ≡ cuts f ms (values_taken ms rest s)
    e = c ∙ ap (cuts f ms) a

-- ---- the values of the fixed members

any_push : {A : Type 0} (f : A → Bool) (xs : List A) (x : A) → list_any f (xs ++ (x ∷ [])) ≡ (list_any f xs || f x)
any_push f [] x = or_none (f x)
  where
    or_none : (b : Bool) → (b || false) ≡ b
    or_none true = refl
    or_none false = refl
any_push f (y ∷ xs) x = ap (λ (b : Bool). f y || b) (any_push f xs x) ∙ grouped (f y) (list_any f xs) (f x)
  where
    grouped : (a b c : Bool) → (a || (b || c)) ≡ ((a || b) || c)
    grouped true b c = refl
    grouped false b c = refl

-- the member n has the value v
abbrev gives : List ℕ → ℕ → Member → Bool
gives s v m = fixed (at s m) && eqb v (least (at s m))

pub used_none : (s : List ℕ) → 0 ≡ fixed_values [] s
used_none s = none_mask (λ v. list_any (gives s v) []) (λ v l. refl)

pub used_below : (ms : List Member) (s : List ℕ) → fixed_values ms s < 2 ^ 64
used_below ms s = mask_below 64 (λ v. list_any (gives s v) ms)

used_push : (ms : List Member) (m : Member) (s : List ℕ) → Small s → cond (fixed (at s m)) (bit_or (fixed_values ms s) (at s m)) (fixed_values ms s) ≡ fixed_values (ms ++ (m ∷ [])) s
used_push ms m s h = mask_is (cond (fixed (at s m)) (bit_or (fixed_values ms s) (at s m)) (fixed_values ms s)) (λ v. list_any (gives s v) (ms ++ (m ∷ [])))
    (below (fixed (at s m))) (λ v l. here v l (fixed (at s m)) refl ∙ sym (any_push (gives s v) ms m))
  where
    below : (b : Bool) → cond b (bit_or (fixed_values ms s) (at s m)) (fixed_values ms s) < 2 ^ 64
    below true = or_lt 64 (fixed_values ms s) (at s m) (used_below ms s) (h m.voice)
    below false = used_below ms s

    or_none : (b : Bool) → b ≡ (b || false)
    or_none true = refl
    or_none false = refl

    here : (v : ℕ) → v < 64 → (b : Bool) → fixed (at s m) ≡ b → has (cond b (bit_or (fixed_values ms s) (at s m)) (fixed_values ms s)) v ≡ (list_any (gives s v) ms || (b && eqb v (least (at s m))))
    here v l true e = has_or (fixed_values ms s) (at s m) v ∙ ap₂ ◌||◌ (has_mask 64 (λ v. list_any (gives s v) ms) v l) (has_fixed (at s m) v (h m.voice) e)
    here v l false e = has_mask 64 (λ v. list_any (gives s v) ms) v l ∙ or_none (list_any (gives s v) ms)

-- one member more, whose set is k
used_more : (ms : List Member) (i k u : ℕ) (s : List ℕ) → Small s → i < length ms → u ≡ fixed_values (take i ms) s → k ≡ at s (get_or ms i nobody)
    → cond (fixed k) (bit_or u k) u ≡ fixed_values (take (i + 1) ms) s
used_more ms i k u s h l e f =
    ap₂ (λ (a b : ℕ). cond (fixed a) (bit_or b a) b) f e ∙ used_push (take i ms) (get_or ms i nobody) s h ∙ ap (λ (x : List Member). fixed_values x s) (sym (take_more ms i nobody l))

pub used_fixed : (ms : List Member) (i k u : ℕ) (s : List ℕ) → Small s → i < length ms → u ≡ fixed_values (take i ms) s → k ≡ at s (get_or ms i nobody) → fixed k ≡ true
    → bit_or u k ≡ fixed_values (take (i + 1) ms) s
used_fixed ms i k u s h l e f g = ap (λ (b : Bool). cond b (bit_or u k) u) (sym g) ∙ used_more ms i k u s h l e f

pub used_open : (ms : List Member) (i k u : ℕ) (s : List ℕ) → Small s → i < length ms → u ≡ fixed_values (take i ms) s → k ≡ at s (get_or ms i nobody) → fixed k ≡ false
    → u ≡ fixed_values (take (i + 1) ms) s
used_open ms i k u s h l e f g = ap (λ (b : Bool). cond b (bit_or u k) u) (sym g) ∙ used_more ms i k u s h l e f

-- ---- how many values the fixed members have

-- the fixed members' values, in order
abbrev placed : List Member → List ℕ → List ℕ
placed [] s = []
placed (m ∷ ms) s = cond (fixed (at s m)) (least (at s m) ∷ placed ms s) (placed ms s)

any_placed : (ms : List Member) (s : List ℕ) (v : ℕ) → list_any (gives s v) ms ≡ list_any (eqb v) (placed ms s)
any_placed [] s v = refl
any_placed (m ∷ ms) s v = go (fixed (at s m)) (any_placed ms s v)
  where
    go : (b : Bool) → list_any (gives s v) ms ≡ list_any (eqb v) (placed ms s)
        → ((b && eqb v (least (at s m))) || list_any (gives s v) ms) ≡ list_any (eqb v) (cond b (least (at s m) ∷ placed ms s) (placed ms s))
    go true e = ap (λ (x : Bool). eqb v (least (at s m)) || x) e
    go false e = e

used_placed : (ms : List Member) (s : List ℕ) → fixed_values ms s ≡ set_of (placed ms s)
used_placed ms s =
    same_sets 64 (fixed_values ms s) (set_of (placed ms s)) (used_below ms s) (set_of_below (placed ms s))
    (λ v l. has_mask 64 (λ v. list_any (gives s v) ms) v l ∙ any_placed ms s v ∙ sym (has_set_of (placed ms s) v l))

placed_below : (ms : List Member) (s : List ℕ) → Small s → Each (λ x. x < 64) (placed ms s)
placed_below [] s h = tt
placed_below (m ∷ ms) s h = go (fixed (at s m)) refl (placed_below ms s h)
  where
    go : (b : Bool) → fixed (at s m) ≡ b → Each (λ x. x < 64) (placed ms s) → Each (λ x. x < 64) (cond b (least (at s m) ∷ placed ms s) (placed ms s))
    go true f d = (least_below (at s m) (fixed_pos (at s m) f) (h m.voice), d)
    go false f d = d

placed_most : (ms : List Member) (s : List ℕ) → length (placed ms s) ≤ length ms
placed_most [] s = omega arith
placed_most (m ∷ ms) s = go (fixed (at s m)) (placed_most ms s)
  where
    go : (b : Bool) → length (placed ms s) ≤ length ms → length (cond b (least (at s m) ∷ placed ms s) (placed ms s)) ≤ suc (length ms)
    go true k = omega arith
    go false k = omega arith

-- all members are fixed, and these are their values; or there are fewer values than members
placed_all : (ms : List Member) (s : List ℕ)
    → ((list_all (λ m. fixed (at s m)) ms ≡ true) × (placed ms s ≡ map (λ m. least (at s m)) ms)) ⊎ ((list_all (λ m. fixed (at s m)) ms ≡ false) × (length (placed ms s) < length ms))
placed_all [] s = inl (refl, refl)
placed_all (m ∷ ms) s = go (fixed (at s m)) (placed_all ms s)
  where
    go : (b : Bool) → ((list_all (λ m. fixed (at s m)) ms ≡ true) × (placed ms s ≡ map (λ m. least (at s m)) ms)) ⊎ ((list_all (λ m. fixed (at s m)) ms ≡ false) × (length (placed ms s) < length ms))
        → (((b && list_all (λ m. fixed (at s m)) ms) ≡ true) × (cond b (least (at s m) ∷ placed ms s) (placed ms s) ≡ least (at s m) ∷ map (λ m. least (at s m)) ms))
        ⊎ (((b && list_all (λ m. fixed (at s m)) ms) ≡ false) × (length (cond b (least (at s m) ∷ placed ms s) (placed ms s)) < suc (length ms)))
    go true (inl k) = inl (k.0, ap (λ (l : List ℕ). least (at s m) ∷ l) k.1)
    go true (inr k) = inr (k.0, omega arith)
    go false k = inr (refl, omega (arith, placed_most ms s))

-- all members are fixed at values that differ where there are as many values as members
placed_counted : (ms : List Member) (s : List ℕ) → Small s → all_placed ms s ≡ eqb (ones (fixed_values ms s)) (length ms)
placed_counted ms s h = let counted = count_distinct (placed ms s) (placed_below ms s h) in elim (placed_all ms s) [
  | inl k ↦ ap₂ ◌&&◌ k.0 (ap distinct (sym k.1)) ∙ counted.1 ∙ ap₂ (λ (x y : ℕ). eqb (ones x) y) (sym (used_placed ms s)) (ap length k.1 ∙ length-map ms (λ m. least (at s m)))
  | inr k ↦ (let few : ones (set_of (placed ms s)) ≤ length (placed ms s) = counted.0 in
      let less : length (placed ms s) < length ms = k.1 in
      let same : ones (fixed_values ms s) ≡ ones (set_of (placed ms s)) = ap ones (used_placed ms s) in
      ap (λ (b : Bool). b && distinct (map (λ m. least (at s m)) ms)) k.0 ∙ sym (ne_eqb (ones (fixed_values ms s)) (length ms) (λ e. omega arith)))
]

-- the trace, by that count: u is the set of the values
pub trace_settled : (ms : List Member) (s : List ℕ) (u : ℕ) → Small s → u ≡ fixed_values ms s → ones u ≡ length ms → Settled ≡ cond (all_placed ms s) Settled (Open (fixed_values ms s))
trace_settled ms s u h a e =
    ap (λ (b : Bool). cond b Settled (Open (fixed_values ms s))) (sym (placed_counted ms s h ∙ eq-eqb (ones (fixed_values ms s)) (length ms) (ap ones (sym a) ∙ e)))

pub trace_open : (ms : List Member) (s : List ℕ) (u : ℕ) → Small s → u ≡ fixed_values ms s → (ones u ≡ length ms → ⊥) → Open u ≡ cond (all_placed ms s) Settled (Open (fixed_values ms s))
trace_open ms s u h a n =
    ap Open a
    ∙ ap (λ (b : Bool). cond b Settled (Open (fixed_values ms s))) (sym (placed_counted ms s h ∙ ne_eqb (ones (fixed_values ms s)) (length ms) (λ e. n (ap ones a ∙ e))))

-- ---- voices that differ

-- what follows the first member, as the checker has it
abbrev others : List Member → List Member
others ms = take (length ms - 1) (drop 1 ms)

-- the members' voices differ where the first one's is passed and the others' differ
voices_first : (ms : List Member) → 1 ≤ length ms
    → distinct (map (λ m. m.voice) ms) ≡ (not (list_any (λ m. eqb (get_or ms 0 nobody).voice m.voice) (others ms)) && distinct (map (λ m. m.voice) (others ms)))
voices_first [] h = absurd (omega arith)
voices_first (x ∷ ms) h =
    ap (λ (b : Bool). not b && distinct (map (λ m. m.voice) ms)) (any_map (λ m. m.voice) (eqb x.voice) ms)
    ∙ ap (λ (l : List Member). not (list_any (λ m. eqb x.voice m.voice) l) && distinct (map (λ m. m.voice) l)) (sym (take_rest (x ∷ ms) 1))

-- whether the first one's voice comes again, b, decides, or is passed over
pub voices_stop : (ms : List Member) (b : Bool) → 1 ≤ length ms → b ≡ list_any (λ m. eqb (get_or ms 0 nobody).voice m.voice) (others ms) → b ≡ true
    → distinct (map (λ m. m.voice) ms) ≡ false
voices_stop ms b h e k = voices_first ms h ∙ ap (λ (x : Bool). not x && distinct (map (λ m. m.voice) (others ms))) (sym e ∙ k)

pub voices_on : (ms : List Member) (b : Bool) → 1 ≤ length ms → b ≡ list_any (λ m. eqb (get_or ms 0 nobody).voice m.voice) (others ms) → b ≡ false
    → distinct (map (λ m. m.voice) (others ms)) ≡ distinct (map (λ m. m.voice) ms)
voices_on ms b h e k = sym (voices_first ms h ∙ ap (λ (x : Bool). not x && distinct (map (λ m. m.voice) (others ms))) (sym e ∙ k))
