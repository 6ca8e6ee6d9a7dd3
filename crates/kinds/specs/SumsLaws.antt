-- The kind L keeps the laws.
use Rattle.std.specs.Prelude.{◌≡◌, ℕ, zero, suc, ◌+◌, ◌*◌, ◌^◌, ◌<◌, ◌≤◌, Bool, true, false, cond, leb, List, [], ◌∷◌, ◌++◌, length, ℤ, pos, negsuc, ◌+ℤ◌, ◌-ℤ◌, ◌*ℤ◌, neg_ℤ, ◌≤ℤ◌, int_le, nat_le, unsigned_abs, refl}
use Rattle.std.proofs.Common.{sym, ap, ap₂, ◌∙◌, subst, inl, inr, zero-le, le_trans, le_refl, arith, lit≤, le→leb}
use Rattle.std.proofs.Math.IntN.{+ℤ_idl, +ℤ_idr}
use Rattle.std.specs.Int.Signed.{non_neg, ≤ℤ_refl}
use Rattle.std.proofs.lemmas.Int.{ints}
use Rattle.std.proofs.lemmas.Nat.{mul-le}
use Rattle.std.proofs.lemmas.Bool.{leb-true, cases_Bool, both_ways, and_parts}
use Rattle.rows.specs.Laws.{Laws, AcceptedFor}
use Rattle.rows.specs.Rows.{alone, RowData}
use Rattle.rows.specs.declared.member.Member.{Member}
use Rattle.sets.specs.Placings.{some_empty, all_fixed, Proper, Within, values}
use Rattle.std.specs.List.{list_all}
use Rattle.sets.specs.Sets.{has, fixed, least, greatest}
use Rattle.rows.specs.Shared.{at, cut, cuts, shaped, declared}
use Rattle.rows.specs.declared.trace.Trace.TheVariants.{Settled, Open}
use Rattle.kinds.specs.Sums.{bound, total, term, low, high, placed, within, always_within, linear_content, linear, linear_rule}
use Rattle.sets.proofs.Membership.{has_least, has_greatest, least_first, greatest_last, fixed_pos, fixed_member}
use Rattle.rows.proofs.Cuts.{Each, all_each, each_map, each_both, Declared, Small, proper_small, fixed_place, cuts_small, cuts_narrower, cuts_within, cuts_more, cuts_nothing}
use Rattle.rows.proofs.Members.{lettered_by, verdict_parts, stays_verdict, accepted_members, shaped_long, at_more, fixed_value, value_below, Twins, twins, at_twins, same_mark, same_content, checks_by}
use Rattle.sets.proofs.Lists.{value_place}

-- ---- integers

le_is : (a b : ℤ) → int_le a b ≡ true → a ≤ℤ b
le_is a b e = omega (arith, ints)

is_le : (a b : ℤ) → a ≤ℤ b → int_le a b ≡ true
is_le a b h = sym (omega (arith, ints))

le_add : (a b c d : ℤ) → a ≤ℤ b → c ≤ℤ d → (a +ℤ c) ≤ℤ (b +ℤ d)
le_add a b c d h l = omega (arith, ints)

le_of : (a b c : ℤ) → a ≤ℤ b → b ≤ℤ c → a ≤ℤ c
le_of a b c h l = omega (arith, ints)

-- the sum without one's own part
rest_head : (v l L V : ℤ) → L ≤ℤ V → (v +ℤ ((l +ℤ L) -ℤ l)) ≤ℤ (v +ℤ V)
rest_head v l L V h = omega (arith, ints)

rest_step : (l v y x L V : ℤ) → l ≤ℤ v → (y +ℤ (L -ℤ x)) ≤ℤ V → (y +ℤ ((l +ℤ L) -ℤ x)) ≤ℤ (v +ℤ V)
rest_step l v y x L V h k = omega (arith, ints)

rest_own : (x T b : ℤ) → (x +ℤ (T -ℤ x)) ≤ℤ b → T ≤ℤ b
rest_own x T b h = omega (arith, ints)

four : (a b c d : ℤ) → ((a +ℤ b) +ℤ (c +ℤ d)) ≡ ((a +ℤ c) +ℤ (b +ℤ d))
four a b c d = omega (arith, ints)

abs_add : (a b : ℤ) → unsigned_abs (a +ℤ b) ≤ unsigned_abs a + unsigned_abs b
abs_add a b = omega (arith, ints)

-- the word of a sum tells the sum
word : (a b : ℤ) → unsigned_abs a ≤ 4000000 → unsigned_abs b ≤ 4000000 → unsigned_abs (a +ℤ pos 4000000) ≡ unsigned_abs (b +ℤ pos 4000000) → a ≡ b
word a b h l e = omega (arith, ints)

-- ---- a member's least and greatest

neg_le : (x y : ℕ) → x ≤ y → neg_ℤ (pos y) ≤ℤ neg_ℤ (pos x)
neg_le x y h = omega (arith, ints)

abs_neg : (n : ℕ) → unsigned_abs (neg_ℤ (pos n)) ≡ n
abs_neg zero = refl
abs_neg (suc n) = refl

times_up : (c : ℤ) (a b : ℕ) → non_neg c ≡ true → a ≤ b → (c *ℤ pos a) ≤ℤ (c *ℤ pos b)
times_up (pos c) a b e h = record { le = le→leb (c * a) (c * b) (mul-le c a c b (le_refl c) h) }
times_up (negsuc c) a b e h = absurd (both_ways false refl e)

times_down : (c : ℤ) (a b : ℕ) → non_neg c ≡ false → a ≤ b → (c *ℤ pos b) ≤ℤ (c *ℤ pos a)
times_down (pos c) a b e h = absurd (both_ways true e refl)
times_down (negsuc c) a b e h = neg_le (suc c * a) (suc c * b) (mul-le (suc c) a (suc c) b (le_refl (suc c)) h)

times_abs : (c : ℤ) (a : ℕ) → unsigned_abs (c *ℤ pos a) ≡ unsigned_abs c * a
times_abs (pos c) a = refl
times_abs (negsuc c) a = abs_neg (suc c * a)

pub low_le : (s : List ℕ) (m : Member) (v : ℕ) → Small s → has (at s m) v ≡ true → low s m ≤ℤ term m v
low_le s m v h e = go (non_neg m.argument) refl
  where
    go : (b : Bool) → non_neg m.argument ≡ b → cond b (term m (least (at s m))) (term m (greatest (at s m))) ≤ℤ term m v
    go true k = times_up m.argument (least (at s m)) v k (least_first (at s m) v (h m.voice) e)
    go false k = times_down m.argument v (greatest (at s m)) k (greatest_last (at s m) v (h m.voice) e)

pub high_ge : (s : List ℕ) (m : Member) (v : ℕ) → Small s → has (at s m) v ≡ true → term m v ≤ℤ high s m
high_ge s m v h e = go (non_neg m.argument) refl
  where
    go : (b : Bool) → non_neg m.argument ≡ b → term m v ≤ℤ cond b (term m (greatest (at s m))) (term m (least (at s m)))
    go true k = times_up m.argument v (greatest (at s m)) k (greatest_last (at s m) v (h m.voice) e)
    go false k = times_down m.argument (least (at s m)) v k (least_first (at s m) v (h m.voice) e)

fixed_low : (s : List ℕ) (m : Member) → 0 < at s m → at s m < 2 ^ 64 → fixed (at s m) ≡ true → low s m ≡ term m (least (at s m))
fixed_low s m p h f = go (non_neg m.argument)
  where
    go : (b : Bool) → cond b (term m (least (at s m))) (term m (greatest (at s m))) ≡ term m (least (at s m))
    go true = refl
    go false = ap (term m) (fixed_member (at s m) (greatest (at s m)) h f (has_greatest (at s m) p h))

pub fixed_high : (s : List ℕ) (m : Member) → at s m < 2 ^ 64 → fixed (at s m) ≡ true → high s m ≡ term m (least (at s m))
fixed_high s m h f = go (non_neg m.argument)
  where
    go : (b : Bool) → cond b (term m (greatest (at s m))) (term m (least (at s m))) ≡ term m (least (at s m))
    go true = ap (term m) (fixed_member (at s m) (greatest (at s m)) h f (has_greatest (at s m) (fixed_pos (at s m) f) h))
    go false = refl

-- ---- sums

total_le : (f g : Member → ℤ) (ms : List Member) → Each (λ m. f m ≤ℤ g m) ms → total f ms ≤ℤ total g ms
total_le f g [] e = ≤ℤ_refl (pos 0)
total_le f g (m ∷ ms) e = le_add (f m) (g m) (total f ms) (total g ms) e.0 (total_le f g ms e.1)

total_same : (f g : Member → ℤ) (ms : List Member) → Each (λ m. f m ≡ g m) ms → total f ms ≡ total g ms
total_same f g [] e = refl
total_same f g (m ∷ ms) e = ap₂ ◌+ℤ◌ e.0 (total_same f g ms e.1)

total_split : (h f g : Member → ℤ) (ms : List Member) → Each (λ m. h m ≡ (f m +ℤ g m)) ms → total h ms ≡ (total f ms +ℤ total g ms)
total_split h f g [] e = refl
total_split h f g (m ∷ ms) e = ap₂ ◌+ℤ◌ e.0 (total_split h f g ms e.1) ∙ four (f m) (g m) (total f ms) (total g ms)

-- with one member's value and the least of the others the sum is no more than with all members' values
total_rest : (f g : Member → ℤ) (ms : List Member) → Each (λ m. f m ≤ℤ g m) ms → Each (λ m. (g m +ℤ (total f ms -ℤ f m)) ≤ℤ total g ms) ms
total_rest f g [] e = tt
total_rest f g (m ∷ ms) e = (
  rest_head (g m) (f m) (total f ms) (total g ms) (total_le f g ms e.1),
  each_map (λ n. (g n +ℤ (total f ms -ℤ f n)) ≤ℤ total g ms) (λ n. (g n +ℤ (total f (m ∷ ms) -ℤ f n)) ≤ℤ total g (m ∷ ms)) ms
      (λ n k. rest_step (f m) (g m) (g n) (f n) (total f ms) (total g ms) e.0 k) (total_rest f g ms e.1),
)

total_abs : (f : Member → ℤ) (k : ℕ) (ms : List Member) → Each (λ m. unsigned_abs (f m) ≤ k) ms → unsigned_abs (total f ms) ≤ length ms * k
total_abs f k [] e = zero-le
total_abs f k (m ∷ ms) e = le_trans (abs_add (f m) (total f ms)) (omega (arith, e.0, total_abs f k ms e.1))

-- ---- the laws

abbrev value_of : List ℕ → Member → ℤ
value_of p m = term m (at p m)

abbrev open_part : List ℕ → List ℕ → Member → ℤ
open_part s p m = cond (fixed (at s m)) (pos 0) (term m (at p m))

members : (r : RowData) (s : List ℕ) → AcceptedFor linear r s → Declared (length s) r.members
members r s a = accepted_members (shaped 0x4C 5 r) (linear_rule r) r (length s) a.yes

long : (r : RowData) (s : List ℕ) → AcceptedFor linear r s → (1 ≤ length r.members) × (length r.members ≤ 32)
long r s a = shaped_long 0x4C 5 r (verdict_parts (shaped 0x4C 5 r) (declared (length s) r) (linear_rule r) a.yes).shape

coefficients : (r : RowData) (s : List ℕ) → AcceptedFor linear r s → Each (λ m. nat_le (unsigned_abs m.argument) 1000 ≡ true) r.members
coefficients r s a = all_each (λ m. leb (unsigned_abs m.argument) 1000) r.members
    (and_parts (nat_le (unsigned_abs (bound r)) 3000000) (list_all (λ m. leb (unsigned_abs m.argument) 1000) r.members) (verdict_parts (shaped 0x4C 5 r) (declared (length s) r) (linear_rule r) a.yes).rule).1

lows : (s p : List ℕ) (ms : List Member) → Small s → Within p s → Declared (length s) ms → Each (λ m. low s m ≤ℤ value_of p m) ms
lows s p ms h w d = each_map (λ m. m.voice < length s) (λ m. low s m ≤ℤ value_of p m) ms (λ m l. low_le s m (at p m) h (w.each m.voice l)) d

sound : (r : RowData) (s p : List ℕ) → AcceptedFor linear r s → Proper s → Within p s → int_le (total (value_of p) r.members) (bound r) ≡ true → Within p (cuts (within r s) r.members s)
sound r s p a h w e =
    cuts_within p (within r s) r.members s (proper_small s h) w
    (each_map (λ m. (value_of p m +ℤ (total (low s) r.members -ℤ low s m)) ≤ℤ total (value_of p) r.members) (λ m. within r s m (at p m) ≡ true) r.members
    (λ m k. is_le (value_of p m +ℤ (total (low s) r.members -ℤ low s m)) (bound r)
    (le_of (value_of p m +ℤ (total (low s) r.members -ℤ low s m)) (total (value_of p) r.members) (bound r) k (le_is (total (value_of p) r.members) (bound r) e)))
    (total_rest (low s) (value_of p) r.members (lows s p r.members (proper_small s h) w (members r s a))))

-- all is fixed and the turn changes nothing: the first member's own test is the row's
first_test : (r : RowData) (s : List ℕ) (ms : List Member) → Proper s → all_fixed s ≡ true → 1 ≤ length ms → Declared (length s) ms
    → Each (λ m. (v : ℕ) → has (at s m) v ≡ true → within r s m v ≡ true) ms → total (low s) r.members ≤ℤ bound r
first_test r s [] h f c d e = absurd (none c)
  where
    none : 1 ≤ 0 → ⊥
    none c = omega arith
first_test r s (m ∷ ms) h f c d e =
    let v = least (at s m) in
    let p = h m.voice d.0 in
    let T = total (low s) r.members in
    rest_own (low s m) T (bound r)
    (subst (λ (x : ℤ). (x +ℤ (T -ℤ low s m)) ≤ℤ bound r) (sym (fixed_low s m p.0 p.1 (fixed_place s m.voice f d.0)))
    (le_is (term m v +ℤ (T -ℤ low s m)) (bound r) (e.0 v (has_least (at s m) p.0 p.1))))

checks : (r : RowData) (s : List ℕ) → AcceptedFor linear r s → Proper s → all_fixed s ≡ true → int_le (total (value_of (values s)) r.members) (bound r) ≡ false
    → some_empty (cuts (within r s) r.members s) ≡ true
checks r s a h f e =
    let small = proper_small s h in
    let ms = r.members in
    let d = members r s a in
    checks_by (cuts (within r s) ms s) s (int_le (total (value_of (values s)) ms) (bound r)) (cuts_small (within r s) ms s small) small (cuts_narrower (within r s) ms s) f
    (λ k. ap (λ (x : ℤ). int_le x (bound r)) (total_same (value_of (values s)) (low s) ms (each_map (λ m. m.voice < length s) (λ m. value_of (values s) m ≡ low s m) ms
    (λ m l. ap (term m) (value_place s m.voice l) ∙ sym (fixed_low s m (h m.voice l).0 (h m.voice l).1 (fixed_place s m.voice f l))) d))
    ∙ is_le (total (low s) ms) (bound r) (first_test r s ms h f (long r s a).0 d (cuts_nothing (within r s) ms s small d k))) e

settled_holds : (r : RowData) (s p : List ℕ) (ms : List Member) → Small s → Within p s → Declared (length s) ms → int_le (total (high s) ms) (bound r) ≡ true → int_le (total (value_of p) ms) (bound r) ≡ true
settled_holds r s p ms h w d e =
    is_le (total (value_of p) ms) (bound r) (le_of (total (value_of p) ms) (total (high s) ms) (bound r)
    (total_le (value_of p) (high s) ms (each_map (λ m. m.voice < length s) (λ m. value_of p m ≤ℤ high s m) ms (λ m l. high_ge s m (at p m) h (w.each m.voice l)) d)) (le_is (total (high s) ms) (bound r) e))

two_parts : (s p : List ℕ) (ms : List Member) → Small s → Within p s → Declared (length s) ms → total (value_of p) ms ≡ (total (placed s) ms +ℤ total (open_part s p) ms)
two_parts s p ms h w d =
    total_split (value_of p) (placed s) (open_part s p) ms (each_map (λ m. m.voice < length s) (λ m. value_of p m ≡ (placed s m +ℤ open_part s p m)) ms (λ m l. go m (fixed (at s m)) refl l) d)
  where
    go : (m : Member) (b : Bool) → fixed (at s m) ≡ b → m.voice < length s → value_of p m ≡ (cond b (term m (least (at s m))) (pos 0) +ℤ cond b (pos 0) (term m (at p m)))
    go m true f l = ap (term m) (fixed_value s p m.voice h w l f) ∙ sym (+ℤ_idr (term m (least (at s m))))
    go m false f l = sym (+ℤ_idl (term m (at p m)))

-- the fixed part is no more than 32 times 1,000 times 63
part_small : (s p : List ℕ) (ms : List Member) → Small s → Within p s → Declared (length s) ms → Each (λ m. nat_le (unsigned_abs m.argument) 1000 ≡ true) ms → length ms ≤ 32
    → unsigned_abs (total (placed s) ms) ≤ 4000000
part_small s p ms h w d c n =
    le_trans (total_abs (placed s) 63000 ms (each_both (λ m. m.voice < length s) (λ m. nat_le (unsigned_abs m.argument) 1000 ≡ true) (λ m. unsigned_abs (placed s m) ≤ 63000) ms (λ m l k. go m (fixed (at s m)) refl l k) d c))
    (omega arith)
  where
    go : (m : Member) (b : Bool) → fixed (at s m) ≡ b → m.voice < length s → nat_le (unsigned_abs m.argument) 1000 ≡ true → unsigned_abs (cond b (term m (least (at s m))) (pos 0)) ≤ 63000
    go m true f l k =
        let v : least (at s m) < 64 = subst (λ (x : ℕ). x < 64) (fixed_value s p m.voice h w l f) (value_below s p m.voice h w l) in
        subst (λ (x : ℕ). x ≤ 63000) (sym (times_abs m.argument (least (at s m)))) (mul-le (unsigned_abs m.argument) (least (at s m)) 1000 63 (leb-true (unsigned_abs m.argument) 1000 k) (omega arith))
    go m false f l k = zero-le

projects : (r : RowData) (s t p q : List ℕ) → AcceptedFor linear r s → Twins s t p q
    → cond (always_within r s) Settled (Open (linear_content r s)) ≡ cond (always_within r t) Settled (Open (linear_content r t))
    → int_le (total (value_of p) r.members) (bound r) ≡ int_le (total (value_of q) r.members) (bound r)
projects r s t p q a w e =
    let ms = r.members in
    let d = members r s a in
    let dt : Declared (length t) ms = subst (λ (n : ℕ). Declared n ms) w.alike.long d in
    let mark : always_within r s ≡ always_within r t = same_mark (always_within r s) (always_within r t) (linear_content r s) (linear_content r t) e in
    elim (cases_Bool (always_within r s)) [
      | inl k ↦ settled_holds r s p ms w.small_s w.in_s d k ∙ sym (settled_holds r t q ms w.small_t w.in_t dt (sym mark ∙ k))
      | inr k ↦ ap (λ (x : ℤ). int_le x (bound r))
          (two_parts s p ms w.small_s w.in_s d
          ∙ ap₂ ◌+ℤ◌
          (word (total (placed s) ms) (total (placed t) ms) (part_small s p ms w.small_s w.in_s d (coefficients r s a) (long r s a).1)
          (part_small t q ms w.small_t w.in_t dt (coefficients r s a) (long r s a).1)
          (same_content (always_within r s) (always_within r t) (linear_content r s) (linear_content r t) e k (sym mark ∙ k)))
          (total_same (open_part s p) (open_part t q) ms (each_map (λ m. m.voice < length s) (λ m. open_part s p m ≡ open_part t q m) ms (λ m l. one m l) d))
          ∙ sym (two_parts t q ms w.small_t w.in_t dt))
    ]
  where
    one : (m : Member) → m.voice < length s → open_part s p m ≡ open_part t q m
    one m l = elim (at_twins s t p q m.voice w l) [
      | inl b ↦ ap (λ (x : Bool). cond x (pos 0) (term m (at p m))) b.fix_s ∙ sym (ap (λ (x : Bool). cond x (pos 0) (term m (at q m))) b.fix_t)
      | inr b ↦ ap₂ (λ (x : Bool) (y : ℕ). cond x (pos 0) (term m y)) (b.open_s ∙ sym b.open_t) b.same
    ]

abbrev low_by : Member → ℕ → ℤ
low_by m x = cond (non_neg m.argument) (term m (least x)) (term m (greatest x))

abbrev high_by : Member → ℕ → ℤ
high_by m x = cond (non_neg m.argument) (term m (greatest x)) (term m (least x))

same_total : (g : Member → ℕ → ℤ) (ms : List Member) (s t : List ℕ) → Declared (length s) ms → total (λ m. g m (at (s ++ t) m)) ms ≡ total (λ m. g m (at s m)) ms
same_total g ms s t d = total_same (λ m. g m (at (s ++ t) m)) (λ m. g m (at s m)) ms (each_map (λ m. at (s ++ t) m ≡ at s m) (λ m. g m (at (s ++ t) m) ≡ g m (at s m)) ms (λ m e. ap (g m) e) (at_more ms s t d))

cuts_same : (f g : Member → ℕ → Bool) (ms : List Member) (s : List ℕ) → Each (λ m. f m ≡ g m) ms → cuts f ms s ≡ cuts g ms s
cuts_same f g [] s e = refl
cuts_same f g (m ∷ ms) s e = cuts_same f g ms (cut m.voice (f m) s) e.1 ∙ ap (λ h. cuts g ms (cut m.voice h s)) e.0

turn_more : (r : RowData) (s t : List ℕ) → AcceptedFor linear r s → cuts (within r (s ++ t)) r.members (s ++ t) ≡ cuts (within r s) r.members s ++ t
turn_more r s t a =
    let ms = r.members in
    let d = members r s a in
    cuts_same (within r (s ++ t)) (within r s) ms (s ++ t)
    (each_map (λ m. at (s ++ t) m ≡ at s m) (λ m. within r (s ++ t) m ≡ within r s m) ms
    (λ m e. ap₂ {C = ℕ → Bool} (λ (T x : ℤ) (v : ℕ). int_le (term m v +ℤ (T -ℤ x)) (bound r)) (same_total low_by ms s t d) (ap (low_by m) e)) (at_more ms s t d))
    ∙ cuts_more (within r s) ms s t d

pub linear_lawful : Laws (alone linear)
linear_lawful = record {
  lettered = lettered_by linear refl (lit≤ tt) (lit≤ tt);
  narrows = λ r s a h. cuts_narrower (within r s) r.members s;
  sound = sound;
  checks = checks;
  projects = λ r s t p q a hs ht k e ws wt g. projects r s t p q a (twins s t p q hs ht k ws wt g) e;
  stays = λ r n k a. record { shape = a.shape; yes = stays_verdict (shaped 0x4C 5 r) (linear_rule r) r n k a.yes };
  holds_more = λ r p q a _. ap (λ (x : ℤ). int_le x (bound r)) (same_total term r.members p q (members r p a));
  turn_more = λ r s t a _. turn_more r s t a;
  trace_more = λ r s t a _. ap₂ (λ (x y : ℤ). cond (int_le x (bound r)) Settled (Open (unsigned_abs (y +ℤ pos 4000000))))
      (same_total high_by r.members s t (members r s a)) (same_total (λ m x. cond (fixed x) (term m (least x)) (pos 0)) r.members s t (members r s a));
}
