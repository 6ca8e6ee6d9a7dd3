-- Two lists of sets with one key have the same fillings of their open voices, so where one has no lawful placing the other has none.
use Rattle.std.proofs.Common.{◌≡◌, ℕ, zero, suc, ◌+◌, ◌*◌, ◌<◌, ◌≤◌, Bool, true, false, cond, ◌&&◌, List, [], ◌∷◌, length, get_or, take, drop, sym, refl, ap, ◌∙◌, subst, ap₂, inl, inr, arith}
use Rattle.std.proofs.lemmas.Bool.{cases_Bool, cases_lt, cond-true, cond-false, cond_both}
use Rattle.std.proofs.lemmas.List.{length-append, get_or-map, get_or_past, length-map, take_at, drop_at}
use Rattle.sets.proofs.Membership.{has_least}
use Rattle.sets.specs.Sets.{has, fixed, least}
use Rattle.sets.specs.Placings.{Proper, Within}
use Rattle.std.specs.List.{list_all}
use Rattle.rows.specs.Rows.{RowData, Meaning}
use Rattle.rows.specs.declared.trace.Trace.{Trace}
use Rattle.rows.specs.declared.trace.Trace.TheVariants.{Settled, Open}
use Rattle.rows.specs.Laws.{Laws, Alike, Agree}
use Rattle.rows.specs.Traces.{mark_word, content_word}
use Rattle.stores.specs.Keys.{key, voice_word, voice_words, trace_words}
use Rattle.rows.specs.Placed.{AllAccepted, AllHold}
use Rattle.search.specs.Results.{Projects}
use Rattle.stores.proofs.Writing.{trace_length}

-- no placing within s for which all rows hold
abbrev pub Fails : Meaning → List RowData → List ℕ → Type 0
Fails m rows s = (p : List ℕ) → Within p s → AllHold m rows p → ⊥

-- a key that only lists of sets without such a placing have
abbrev pub Sound : Meaning → List RowData → ℕ → List ℕ → Type 0
Sound m rows n k = (s : List ℕ) → Proper s → length s ≡ n → key m rows s ≡ k → Fails m rows s

word_fixed : (x y : ℕ) → 0 < x → 0 < y → voice_word x ≡ voice_word y → fixed x ≡ fixed y
word_fixed x y a b e =
    elim (cases_Bool (fixed x)) [
      | inl f ↦ elim (cases_Bool (fixed y)) [
        | inl g ↦ f ∙ sym g
        | inr g ↦ absurd (omega (arith, e, cond-true (fixed x) 0 x f, cond-false (fixed y) 0 y g))
      ]
      | inr f ↦ elim (cases_Bool (fixed y)) [
        | inl g ↦ absurd (omega (arith, e, cond-false (fixed x) 0 x f, cond-true (fixed y) 0 y g))
        | inr g ↦ f ∙ sym g
      ]
    ]

word_open : (x y : ℕ) → fixed x ≡ false → fixed x ≡ fixed y → voice_word x ≡ voice_word y → x ≡ y
word_open x y f g e = sym (cond-false (fixed x) 0 x f) ∙ e ∙ cond-false (fixed y) 0 y (sym g ∙ f)

voices_equal : (m : Meaning) (rows : List RowData) (s t : List ℕ) → length s ≡ length t → key m rows s ≡ key m rows t → voice_words s ≡ voice_words t
voices_equal m rows s t l e =
    sym (take_at (voice_words s) (trace_words m s rows) (length s) (length-map s voice_word))
    ∙ ap (take (length s)) e
    ∙ take_at (voice_words t) (trace_words m t rows) (length s) (length-map t voice_word ∙ sym l)

traces_equal : (m : Meaning) (rows : List RowData) (s t : List ℕ) → length s ≡ length t → key m rows s ≡ key m rows t → trace_words m s rows ≡ trace_words m t rows
traces_equal m rows s t l e =
    sym (drop_at (voice_words s) (trace_words m s rows) (length s) (length-map s voice_word))
    ∙ ap (drop (length s)) e
    ∙ drop_at (voice_words t) (trace_words m t rows) (length s) (length-map t voice_word ∙ sym l)

pub alike : (m : Meaning) (rows : List RowData) (s t : List ℕ) → Proper s → Proper t → length s ≡ length t → key m rows s ≡ key m rows t → Alike s t
alike m rows s t p q l e = record { long = l; same_fixed = same_fixed; same_open = same_open }
  where
    words : (i : ℕ) → i < length s → voice_word (get_or s i 0) ≡ voice_word (get_or t i 0)
    words i h =
        sym (get_or-map voice_word s i 0 0 h) ∙ ap (λ (x : List ℕ). get_or x i 0) (voices_equal m rows s t l e) ∙ get_or-map voice_word t i 0 0 (omega arith)

    past : (i : ℕ) → length s ≤ i → get_or s i 0 ≡ get_or t i 0
    past i h = get_or_past s i 0 h ∙ sym (get_or_past t i 0 (omega arith))

    same_fixed : (i : ℕ) → fixed (get_or s i 0) ≡ fixed (get_or t i 0)
    same_fixed i =
        elim (cases_lt i (length s))
        [ inl h ↦ word_fixed (get_or s i 0) (get_or t i 0) (p i h).0 (q i (omega arith)).0 (words i h) | inr h ↦ ap fixed (past i h) ]

    same_open : (i : ℕ) → fixed (get_or s i 0) ≡ false → get_or s i 0 ≡ get_or t i 0
    same_open i f =
        elim (cases_lt i (length s)) [ inl h ↦ word_open (get_or s i 0) (get_or t i 0) f (same_fixed i) (words i h) | inr h ↦ past i h ]

-- the placing q with the values of s where s is fixed
abbrev fill : List ℕ → List ℕ → List ℕ
fill [] q = []
fill (x ∷ s) [] = []
fill (x ∷ s) (y ∷ q) = cond (fixed x) (least x) y ∷ fill s q

fill_long : (s q : List ℕ) → length q ≡ length s → length (fill s q) ≡ length s
fill_long [] q e = refl
fill_long (x ∷ s) [] e = absurd (omega arith)
fill_long (x ∷ s) (y ∷ q) e = ap suc (fill_long s q (omega arith))

fill_at : (s q : List ℕ) (i : ℕ) → length q ≡ length s → i < length s → get_or (fill s q) i 0 ≡ cond (fixed (get_or s i 0)) (least (get_or s i 0)) (get_or q i 0)
fill_at [] q i e l = absurd (omega arith)
fill_at (x ∷ s) [] i e l = absurd (omega arith)
fill_at (x ∷ s) (y ∷ q) zero e l = refl
fill_at (x ∷ s) (y ∷ q) (suc i) e l = fill_at s q i (omega arith) (omega arith)

-- traces with the same words are the same
same_trace : (a b : Trace) → mark_word a ≡ mark_word b → content_word a ≡ content_word b → a ≡ b
same_trace Settled Settled d e = refl
same_trace Settled (Open c) d e = absurd (omega (arith, d))
same_trace (Open c) Settled d e = absurd (omega (arith, d))
same_trace (Open c) (Open k) d e = ap Open e

module _ (m : Meaning) (L : Laws m) where
  -- so every row holds for the one filling where it does for the other
  rows_equal : (rows : List RowData) (s t p q : List ℕ) → AllAccepted m rows (length s) → Proper s → Proper t → Alike s t → trace_words m s rows ≡ trace_words m t rows
      → Within p s → Within q t → Agree s p q → list_all (λ r. m.holds r p) rows ≡ list_all (λ r. m.holds r q) rows
  rows_equal [] s t p q o a b k e u w g = refl
  rows_equal (r ∷ rows) s t p q o a b k e u w g =
      let one : m.trace r s ≡ m.trace r t =
      same_trace (m.trace r s) (m.trace r t) (ap (λ (x : List ℕ). get_or x 0 0) e) (ap (λ (x : List ℕ). get_or x 1 0) e) in
      ap₂ (λ (x y : Bool). x && y) (L.projects r s t p q o.0 a b k one u w g) (rows_equal rows s t p q o.1 a b k (ap (drop 2) e) u w g)

  pub key_fails : (rows : List RowData) (s t : List ℕ) → AllAccepted m rows (length s) → Proper s → Proper t → length s ≡ length t → key m rows s ≡ key m rows t → Fails m rows s → Fails m rows t
  key_fails rows s t o a b l e f q w h =
      let k = alike m rows s t a b l e in
      f (fill s q) (within k) (rows_equal rows s t (fill s q) q o a b k (traces_equal m rows s t l e) (within k) w agree ∙ h)
    where
      long : length q ≡ length s
      long = w.long ∙ sym l

      each : Alike s t → (i : ℕ) → i < length s → has (get_or s i 0) (get_or (fill s q) i 0) ≡ true
      each k i h =
          subst (λ (x : ℕ). has (get_or s i 0) x ≡ true) (sym (fill_at s q i long h))
          (cond_both (fixed (get_or s i 0)) (least (get_or s i 0)) (get_or q i 0) (λ x. has (get_or s i 0) x ≡ true)
          (λ _. has_least (get_or s i 0) (a i h).0 (a i h).1)
          (λ z. subst (λ (x : ℕ). has x (get_or q i 0) ≡ true) (sym (k.same_open i z)) (w.each i (omega arith))))

      within : Alike s t → Within (fill s q) s
      within k = record { long = fill_long s q long; each = each k }

      agree : Agree s (fill s q) q
      agree i f = elim (cases_lt i (length s)) [
        | inl h ↦ fill_at s q i long h ∙ cond-false (fixed (get_or s i 0)) (least (get_or s i 0)) (get_or q i 0) f
        | inr h ↦ get_or_past (fill s q) i 0 (omega (arith, fill_long s q long)) ∙ sym (get_or_past q i 0 (omega arith))
      ]

  pub key_sound : (rows : List RowData) (n : ℕ) (s : List ℕ) → AllAccepted m rows n → Proper s → length s ≡ n → Fails m rows s → Sound m rows n (key m rows s)
  key_sound rows n s o a l f t b k e = key_fails rows s t (subst (AllAccepted m rows) (sym l) o) a b (l ∙ sym k) (sym e) f

-- ---- the statement

key_length : (m : Meaning) (rows : List RowData) (s : List ℕ) → length (key m rows s) ≡ length s + 2 * length rows
key_length m rows s = omega (arith, length-append (voice_words s) (trace_words m s rows), length-map s voice_word, trace_length m s rows)

-- lists of sets with one key are as long as each other
same_length : (m : Meaning) (rows : List RowData) (s t : List ℕ) → key m rows s ≡ key m rows t → length s ≡ length t
same_length m rows s t e = omega (arith, key_length m rows s, key_length m rows t, ap length e)

pub keys_project : (m : Meaning) → Laws m → (rows : List RowData) (s t : List ℕ) → AllAccepted m rows (length s) → Proper s → Proper t
    → key m rows s ≡ key m rows t → Projects m rows s t
keys_project m L rows s t o a b e =
    let l = same_length m rows s t e in
    let k = alike m rows s t a b l e in
    record {
      alike = k;
      same_fillings = λ p q u w g. rows_equal m L rows s t p q o a b k (traces_equal m rows s t l e) u w g;
      both_fail = λ f q lw. key_fails m L rows s t o a b l e (λ p w h. f p (record { within = w; holding = h })) q lw.within lw.holding;
    }
