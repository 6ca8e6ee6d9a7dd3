-- A turn in two passes: a list filled place by place, and then a run of cuts.
use Rattle.std.proofs.Common.{◌≡◌, ℕ, zero, suc, replicate, ◌+◌, ◌<◌, Bool, true, false, ◌&&◌, ◌||◌, List, [], ◌∷◌, ◌++◌, map, length, get_or, take, set, ℤ, pos, inl, inr, sym, refl, ap, ◌∙◌, ap₂, arith, take_all}
use Rattle.std.proofs.lemmas.List.{take_more_set, map_more, get_or-take, get_or-map, get_or-set_same, get_or-set_other, set_past}
use Rattle.std.proofs.lemmas.Int.{ints}
use Rattle.std.proofs.lemmas.Bool.{cases_eq, cases_lt}
use Rattle.kinds.specs.Sums.{Near}
use Rattle.rows.specs.declared.member.Member.{Member}
use Rattle.sets.specs.Placings.{changed, Narrower}
use Rattle.sets.specs.Sets.{has, sift}
use Rattle.sets.proofs.Membership.{has_sift, sift_below, same_sets}
use Rattle.rows.specs.Shared.{at, cut, cuts}
use Rattle.rows.proofs.Cuts.{Small, cut_narrower, narrower_trans}
use Rattle.rows.proofs.Narrowed.{cut_same, cuts_more_one, cuts_flag}

-- ---- a list filled with what f makes of each member

pub filled_more : {B : Type 0} (f : Member → B) (ms : List Member) (xs : List B) (i : ℕ) (x : B) (d : Member) → i < length ms → i < length xs → take i xs ≡ map f (take i ms) → x ≡ f (get_or ms i d)
    → take (i + 1) (set xs i x) ≡ map f (take (i + 1) ms)
filled_more f ms xs i x d h l e k = take_more_set xs i x l ∙ ap₂ (λ a b. a ++ (b ∷ [])) e k ∙ sym (map_more f ms i d h)

pub filled_all : {B : Type 0} (f : Member → B) (ms : List Member) (xs : List B) (i : ℕ) → i ≡ length ms → take i xs ≡ map f (take i ms) → take (length ms) xs ≡ map f ms
filled_all f ms xs i h e = ap (λ n. take n xs) (sym h) ∙ e ∙ ap (map f) (take_all i ms (omega arith))

pub filled_at : {B : Type 0} (f : Member → B) (ms : List Member) (xs : List B) (i : ℕ) (d : Member) (b : B) → i < length ms → take (length ms) xs ≡ map f ms → get_or xs i b ≡ f (get_or ms i d)
filled_at f ms xs i d b h e = sym (get_or-take (length ms) xs i b h) ∙ ap (λ l. get_or l i b) e ∙ get_or-map f ms i d b h

pub near_zeros : (n k : ℕ) → Near 2097152 (get_or (replicate n (pos 0)) k (pos 0))
near_zeros zero k = record { above = omega (arith, ints); below = omega (arith, ints) }
near_zeros (suc n) zero = record { above = omega (arith, ints); below = omega (arith, ints) }
near_zeros (suc n) (suc k) = near_zeros n k

-- a number near 0 more in a list of such
pub near_more : (n : ℕ) (xs : List ℤ) (i : ℕ) (x : ℤ) → Near n x → ((k : ℕ) → Near n (get_or xs k (pos 0))) → (k : ℕ) → Near n (get_or (set xs i x) k (pos 0))
near_more n xs i x h e k = elim (cases_eq k i) [
  | inl q ↦ rw q (elim (cases_lt i (length xs)) [
    | inl l ↦ rw (get_or-set_same xs i x (pos 0) l) h
    | inr l ↦ rw (set_past xs i x l) (e i)
  ])
  | inr q ↦ rw (get_or-set_other xs i k x (pos 0) q) (e k)
]

-- ---- a run of cuts, one member on: the sets, and whether one changed
pub cut_more : (f : Member → ℕ → Bool) (ms : List Member) (i : ℕ) (d : Member) (first before after : List ℕ) (g : ℕ → Bool) (took took_now : Bool) → Small first → i < length ms
    → (before ≡ cuts f (take i ms) first) × (took ≡ changed before first) → ((v : ℕ) → g v ≡ f (get_or ms i d) v) → after ≡ cut (get_or ms i d).voice g before → took_now ≡ changed after before
    → (after ≡ cuts f (take (i + 1) ms) first) × ((took || took_now) ≡ changed after first)
cut_more f ms i d first before after g took took_now small h inv k a t =
    let m = get_or ms i d in
    let cut-once : after ≡ cut m.voice (f m) (cuts f (take i ms) first) = a ∙ cut_same m.voice g (f m) before (λ v _. k v) ∙ ap (cut m.voice (f m)) inv.0 in (
      cut-once ∙ sym (cuts_more_one f ms i d first h),
      ap₂ ◌||◌ (inv.1 ∙ ap (λ x. changed x first) inv.0) (t ∙ ap₂ changed cut-once inv.0)
          ∙ cuts_flag f (take i ms) first m.voice (f m) small ∙ sym (ap (λ x. changed x first) cut-once),
    )

-- ---- a run of cuts that lets nothing pass

-- no value of t passes: the cut is that of the test that lets none pass
cut_none : (j : ℕ) (f : ℕ → Bool) (t : List ℕ) → ((v : ℕ) → has (get_or t j 0) v ≡ true → f v ≡ false) → cut j f t ≡ cut j (λ v. false) t
unfolding cut
cut_none j f t e =
    ap (set t j)
    (same_sets 64 (sift f (get_or t j 0)) (sift (λ v. false) (get_or t j 0)) (sift_below f (get_or t j 0)) (sift_below (λ v. false) (get_or t j 0))
    (λ v l. has_sift f (get_or t j 0) v l ∙ go v (has (get_or t j 0) v) refl ∙ sym (has_sift (λ v. false) (get_or t j 0) v l)))
  where
    go : (v : ℕ) (b : Bool) → has (get_or t j 0) v ≡ b → (b && f v) ≡ (b && false)
    go v true k = e v k
    go v false k = refl

-- a run of cuts of t, a part of s, that lets no value of s pass
pub cuts_none : (f : Member → ℕ → Bool) (ms : List Member) (s t : List ℕ) → Narrower t s → ((m : Member) (v : ℕ) → has (at s m) v ≡ true → f m v ≡ false)
    → cuts f ms t ≡ cuts (λ m v. false) ms t
cuts_none f [] s t n e = refl
cuts_none f (m ∷ ms) s t n e =
    ap (cuts f ms) (cut_none m.voice (f m) t (λ v k. e m v (n.each m.voice v k)))
    ∙ cuts_none f ms s (cut m.voice (λ v. false) t) (narrower_trans (cut m.voice (λ v. false) t) t s (cut_narrower m.voice (λ v. false) t) n) e
