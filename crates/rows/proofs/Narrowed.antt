-- Whether sets changed, over one cut and over a run of cuts; a cut by a mask.
use Rattle.std.proofs.Common.{◌≡◌, ℕ, zero, suc, ◌+◌, ◌^◌, ◌<◌, Bool, true, false, not, ◌&&◌, ◌||◌, eqb, List, [], ◌∷◌, ◌++◌, length, get_or, take, set, sym, refl, ap, ◌∙◌, inl, inr, arith}
use lib.Bits.{bit_and}
use Rattle.std.proofs.lemmas.List.{take_more, set-get_or}
use Rattle.std.proofs.lemmas.Bool.{cases_Bool, both_ways, eq-eqb}
use Rattle.rows.specs.declared.member.Member.{Member}
use Rattle.sets.specs.Placings.{same, changed, Narrower}
use Rattle.sets.specs.Sets.{has, sift}
use Rattle.rows.specs.Shared.{at, cut, cuts}
use Rattle.sets.proofs.Membership.{has_sift, sift_below, same_sets, sift_all}
use Rattle.sets.proofs.Masks.{and_sift}
use Rattle.rows.proofs.Cuts.{Each, Small, squeezed, cuts_small, cuts_narrower, cut_narrower}
use Rattle.sets.proofs.Lists.{same_self, same_is}

-- ---- the same list, and another

pub unchanged : (xs : List ℕ) → changed xs xs ≡ false
unchanged xs = ap not (same_self xs)

pub changed_not : (xs ys : List ℕ) → changed xs ys ≡ false → xs ≡ ys
changed_not xs ys e = same_is xs ys (go (same xs ys) e)
  where
    go : (b : Bool) → not b ≡ false → b ≡ true
    go true k = refl
    go false k = absurd (both_ways true k refl)

-- one place set
pub changed_set : (s : List ℕ) (i x : ℕ) → i < length s → changed (set s i x) s ≡ not (eqb x (get_or s i 0))
changed_set [] i x h = absurd (out i h)
  where
    out : (i : ℕ) → i < 0 → ⊥
    out i h = omega arith
changed_set (y ∷ s) zero x h = ap not (go (eqb x y))
  where
    go : (b : Bool) → (b && same s s) ≡ b
    go true = same_self s
    go false = refl
changed_set (y ∷ s) (suc i) x h = ap not (ap (λ (b : Bool). b && same (set s i x) s) (eq-eqb y y refl)) ∙ changed_set s i x (omega arith)

-- over two steps that only take values out
pub changed_then : (t u s : List ℕ) → Small u → Small s → Narrower t u → Narrower u s → (changed u s || changed t u) ≡ changed t s
changed_then t u s hu hs a b = elim (cases_Bool (changed u s)) [
  | inr k ↦ (let e : u ≡ s = changed_not u s k in
      ap (λ (x : Bool). x || changed t u) k ∙ ap (changed t) e)
  | inl k ↦ ap (λ (x : Bool). x || changed t u) k ∙ sym (elim (cases_Bool (changed t s)) [
    | inl n ↦ n
    | inr n ↦ absurd (both_ways (changed u s) (ap (λ (x : List ℕ). changed x s) (squeezed t u s hu hs a b (changed_not t s n)) ∙ unchanged s) k)
  ])
]

-- ---- cuts

-- a cut by a mask
pub cut_and : (i kept : ℕ) (s : List ℕ) → get_or s i 0 < 2 ^ 64 → cut i (has kept) s ≡ set s i (bit_and (get_or s i 0) kept)
unfolding cut
cut_and i kept s h = ap (set s i) (sym (and_sift (get_or s i 0) kept (has kept) h (λ v l. refl)))

-- tests that agree below 64 cut alike
pub cut_same : (i : ℕ) (f g : ℕ → Bool) (s : List ℕ) → ((v : ℕ) → v < 64 → f v ≡ g v) → cut i f s ≡ cut i g s
unfolding cut
cut_same i f g s e =
    ap (set s i) (same_sets 64 (sift f (get_or s i 0)) (sift g (get_or s i 0)) (sift_below f (get_or s i 0)) (sift_below g (get_or s i 0))
    (λ v l. has_sift f (get_or s i 0) v l ∙ ap (λ (b : Bool). has (get_or s i 0) v && b) (e v l) ∙ sym (has_sift g (get_or s i 0) v l)))

-- a test that lets all of a set's values pass changes nothing
pub cut_kept : (i : ℕ) (f : ℕ → Bool) (s : List ℕ) → Small s → ((v : ℕ) → has (get_or s i 0) v ≡ true → f v ≡ true) → cut i f s ≡ s
unfolding cut
cut_kept i f s h e = ap (set s i) (sift_all f (get_or s i 0) (h i) e) ∙ set-get_or s i 0

pub cut_whole : (i : ℕ) (f : ℕ → Bool) (s : List ℕ) → Small s → ((v : ℕ) → f v ≡ true) → cut i f s ≡ s
cut_whole i f s h e = cut_kept i f s h (λ v _. e v)

pub cuts_kept : (f : Member → ℕ → Bool) (ms : List Member) (s : List ℕ) → Small s → Each (λ m. (v : ℕ) → has (at s m) v ≡ true → f m v ≡ true) ms → cuts f ms s ≡ s
cuts_kept f [] s h e = refl
cuts_kept f (m ∷ ms) s h e = ap (cuts f ms) (cut_kept m.voice (f m) s h e.0) ∙ cuts_kept f ms s h e.1

pub cuts_push : (f : Member → ℕ → Bool) (ms : List Member) (m : Member) (s : List ℕ) → cuts f (ms ++ (m ∷ [])) s ≡ cut m.voice (f m) (cuts f ms s)
cuts_push f [] m s = refl
cuts_push f (n ∷ ms) m s = cuts_push f ms m (cut n.voice (f n) s)

-- one member more
pub cuts_more_one : (f : Member → ℕ → Bool) (ms : List Member) (i : ℕ) (d : Member) (s : List ℕ) → i < length ms
    → cuts f (take (i + 1) ms) s ≡ cut (get_or ms i d).voice (f (get_or ms i d)) (cuts f (take i ms) s)
cuts_more_one f ms i d s h = ap (λ (x : List Member). cuts f x s) (take_more ms i d h) ∙ cuts_push f (take i ms) (get_or ms i d) s

-- the flag of a run of cuts, one cut on
pub cuts_flag : (f : Member → ℕ → Bool) (ms : List Member) (s : List ℕ) (i : ℕ) (g : ℕ → Bool) → Small s
    → (changed (cuts f ms s) s || changed (cut i g (cuts f ms s)) (cuts f ms s)) ≡ changed (cut i g (cuts f ms s)) s
cuts_flag f ms s i g h =
    changed_then (cut i g (cuts f ms s)) (cuts f ms s) s (cuts_small f ms s h) h (cut_narrower i g (cuts f ms s)) (cuts_narrower f ms s)
