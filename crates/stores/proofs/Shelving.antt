-- Keys behind their headers: reading back what was written, the chain of a bucket, and one key more.
use Rattle.std.proofs.Common.{◌≡◌, ℕ, zero, suc, ◌+◌, ◌-◌, ◌*◌, ◌/◌, ◌%◌, ◌^◌, ◌<◌, ◌≤◌, Bool, true, false, cond, ◌&&◌, ◌||◌, eqb, ltb, leb, ◌⊎◌, List, [], ◌∷◌, ◌++◌, length, get_or, set, take, drop, reverse, get_or-set_same, get_or-set_other, sym, refl, ap, ◌∙◌, subst, ap₂, inl, inr, le_refl, arith}
use Rattle.std.proofs.lemmas.List.{take_at, drop_at, append_assoc, append-nil, reverse-append, take-append-drop, length-take, length-take-le, length-drop, length-append}
use Rattle.std.proofs.lemmas.Bool.{cases_Bool, and_right, lt-leb, eqb-true, eqb-false}
use Rattle.std.proofs.Math.Seq.{get_or-append_seam}
use Rattle.std.specs.Str.{bytes_eq}
use Rattle.sets.specs.Placings.{same}
use Rattle.stores.specs.Stores.{is_held, fits_space}
use Rattle.stores.specs.Shelves.{hash_of, bucket, header, words_of, newest, shelf_entry, words_written, keys_in, shelved_keys, recent_keys, Whole, Indexed, room_of, shelf_state, shelf_view}
use Rattle.stores.specs.ShelfLaws.{held_push}
use Rattle.stores.proofs.Keeping.{Fitting, fitting, pushed_state}
use Rattle.sets.proofs.Lists.{same_is}

-- ---- the same words

-- lists that are not equal
pub same_not : (xs ys : List ℕ) → (xs ≡ ys → ⊥) → same xs ys ≡ false
same_not xs ys n = elim (cases_Bool (same xs ys)) [ inl e ↦ absurd (n (same_is xs ys e)) | inr e ↦ e ]

-- what `==` of two slices answers
pub same_pointwise : (xs ys : List ℕ) → same xs ys ≡ bytes_eq xs ys
same_pointwise [] [] = refl
same_pointwise [] (y ∷ ys) = refl
same_pointwise (x ∷ xs) [] = refl
same_pointwise (x ∷ xs) (y ∷ ys) = ap (λ (b : Bool). eqb x y && b) (same_pointwise xs ys)

-- ---- headers

-- what a header fields
pub record HeaderFields (link hash len h : ℕ) : Type 0 where
  pub long : h % 65536 ≡ len
  pub on : h / 65536 % 65536 ≡ link
  pub print : h / 4294967296 ≡ hash / 4294967296

pub fields : (link hash len : ℕ) → link < 65536 → len < 65536 → HeaderFields link hash len (hash / 4294967296 * 4294967296 + link * 65536 + len)
fields link hash len l n = record { long = omega arith; on = omega arith; print = omega arith }

header_length : (link : ℕ) (k : List ℕ) → length k < 65536 → header link k % 65536 ≡ length k
header_length link k n = omega arith

-- ---- reading

-- a larger bound reads the same keys
bound_free : (f g : ℕ) (ws : List ℕ) → length ws ≤ f → length ws ≤ g → keys_in f ws ≡ keys_in g ws
bound_free zero zero ws h k = refl
bound_free zero (suc g) [] h k = refl
bound_free zero (suc g) (w ∷ ws) h k = absurd (out (length ws) h)
  where
    out : (n : ℕ) → suc n ≤ 0 → ⊥
    out n l = omega arith
bound_free (suc f) zero [] h k = refl
bound_free (suc f) zero (w ∷ ws) h k = absurd (out (length ws) k)
  where
    out : (n : ℕ) → suc n ≤ 0 → ⊥
    out n l = omega arith
bound_free (suc f) (suc g) [] h k = refl
bound_free (suc f) (suc g) (w ∷ ws) h k =
    ap (λ (x : List (List ℕ)). take (w % 65536) ws ∷ x)
    (bound_free f g (drop (w % 65536) ws) (omega (arith, length-drop (w % 65536) ws)) (omega (arith, length-drop (w % 65536) ws)))

shelved_step : (h : ℕ) (ws : List ℕ) → shelved_keys (h ∷ ws) ≡ take (h % 65536) ws ∷ shelved_keys (drop (h % 65536) ws)
shelved_step h ws =
    ap (λ (x : List (List ℕ)). take (h % 65536) ws ∷ x)
    (bound_free (length ws) (length (drop (h % 65536) ws)) (drop (h % 65536) ws) (omega (arith, length-drop (h % 65536) ws)) (le_refl (length (drop (h % 65536) ws))))

-- keys that are short, so that a header has room for their length
abbrev pub Short : List (List ℕ) → Type 0
Short [] = Unit {0}
Short (k ∷ ks) = (length k < 65536) × Short ks

keys_short : (n : ℕ) (ws : List ℕ) → Short (keys_in n ws)
keys_short zero ws = tt
keys_short (suc n) [] = tt
keys_short (suc n) (h ∷ ws) = (omega (arith, length-take (h % 65536) ws), keys_short n (drop (h % 65536) ws))

short_push : (ks : List (List ℕ)) (k : List ℕ) → Short ks → length k < 65536 → Short (ks ++ (k ∷ []))
short_push [] k s h = (h, tt)
short_push (x ∷ ks) k s h = (s.0, short_push ks k s.1 h)

reverse_more : (ks : List (List ℕ)) (k : List ℕ) → reverse (k ∷ ks) ≡ reverse ks ++ (k ∷ [])
reverse_more ks k = reverse-append (k ∷ []) ks

reverse_push : (ks : List (List ℕ)) (k : List ℕ) → reverse (ks ++ (k ∷ [])) ≡ k ∷ reverse ks
reverse_push ks k = reverse-append ks (k ∷ [])

reverse_twice : (ks : List (List ℕ)) → reverse (reverse ks) ≡ ks
reverse_twice [] = refl
reverse_twice (k ∷ ks) = ap reverse (reverse_more ks k) ∙ reverse_push (reverse ks) k ∙ ap (λ (x : List (List ℕ)). k ∷ x) (reverse_twice ks)

short_reverse : (ks : List (List ℕ)) → Short ks → Short (reverse ks)
short_reverse [] s = tt
short_reverse (k ∷ ks) s = subst Short (sym (reverse_more ks k)) (short_push (reverse ks) k (short_reverse ks s.1) s.0)

-- words that are these keys, the oldest first, each behind a word that fields its length
data Runs : List ℕ → List (List ℕ) → Type 0 where
  none : Runs [] []
  more : (h : ℕ) (k ws : List ℕ) (ks : List (List ℕ)) → h % 65536 ≡ length k → Runs ws ks → Runs (h ∷ (k ++ ws)) (k ∷ ks)

runs_read : (ws : List ℕ) (ks : List (List ℕ)) → Runs ws ks → shelved_keys ws ≡ ks
runs_read ws ks none = refl
runs_read ws ks (more h k rest others e r) =
    shelved_step h (k ++ rest)
    ∙ ap₂ {C = List (List ℕ)} (λ (x : List ℕ) (y : List ℕ). x ∷ shelved_keys y) (take_at k rest (h % 65536) (sym e)) (drop_at k rest (h % 65536) (sym e))
    ∙ ap (λ (x : List (List ℕ)). k ∷ x) (runs_read rest others r)

runs_push : (ws : List ℕ) (ks : List (List ℕ)) (h : ℕ) (k : List ℕ) → h % 65536 ≡ length k → Runs ws ks → Runs (ws ++ (h ∷ k)) (ks ++ (k ∷ []))
runs_push ws ks h k e none = subst (λ (x : List ℕ). Runs (h ∷ x) (k ∷ [])) (append-nil k) (more h k [] [] e none)
runs_push ws ks h k e (more g x rest others d r) =
    subst (λ (y : List ℕ). Runs (g ∷ y) (x ∷ (others ++ (k ∷ [])))) (sym (append_assoc x rest (h ∷ k))) (more g x (rest ++ (h ∷ k)) (others ++ (k ∷ [])) d (runs_push rest others h k e r))

runs_written : (ks : List (List ℕ)) → Short ks → Runs (words_written ks) (reverse ks)
runs_written [] s = none
runs_written (k ∷ ks) s =
    subst (Runs (words_written ks ++ shelf_entry ks k)) (sym (reverse_more ks k)) (runs_push (words_written ks) (reverse ks) (header (newest (bucket k) ks) k) k (header_length (newest (bucket k) ks) k s.0) (runs_written ks s.1))

-- what is written is read back
read_back : (ks : List (List ℕ)) → Short ks → shelved_keys (words_written ks) ≡ reverse ks
read_back ks s = runs_read (words_written ks) (reverse ks) (runs_written ks s)

recent_short : (ws : List ℕ) → Short (recent_keys ws)
recent_short ws = short_reverse (shelved_keys ws) (keys_short (length ws) ws)

-- ---- one key more

pub shelved_push : (ws k : List ℕ) → Whole ws → length k < 65536 → shelved_keys (ws ++ shelf_entry (recent_keys ws) k) ≡ shelved_keys ws ++ (k ∷ [])
shelved_push ws k w h =
    ap (λ (x : List ℕ). shelved_keys (x ++ shelf_entry (recent_keys ws) k)) (sym w)
    ∙ read_back (k ∷ recent_keys ws) (h, recent_short ws)
    ∙ reverse_more (recent_keys ws) k
    ∙ ap (λ (x : List (List ℕ)). x ++ (k ∷ [])) (reverse_twice (shelved_keys ws))

recent_push : (ws k : List ℕ) → Whole ws → length k < 65536 → recent_keys (ws ++ shelf_entry (recent_keys ws) k) ≡ k ∷ recent_keys ws
recent_push ws k w h = ap reverse (shelved_push ws k w h) ∙ reverse_push (shelved_keys ws) k

pub whole_push : (ws k : List ℕ) → Whole ws → length k < 65536 → Whole (ws ++ shelf_entry (recent_keys ws) k)
whole_push ws k w h = ap words_written (recent_push ws k w h) ∙ ap (λ (x : List ℕ). x ++ shelf_entry (recent_keys ws) k) w

held_reverse : (x : List ℕ) (ks : List (List ℕ)) → is_held x (reverse ks) ≡ is_held x ks
held_reverse x [] = refl
held_reverse x (k ∷ ks) = ap (is_held x) (reverse_more ks k) ∙ held_push x k (reverse ks) ∙ ap (λ (b : Bool). same x k || b) (held_reverse x ks)

-- ---- the chain of a bucket

words_long : (ks : List (List ℕ)) → length (words_written ks) ≡ words_of ks
words_long [] = refl
words_long (k ∷ ks) = omega (arith, length-append (words_written ks) (shelf_entry ks k), words_long ks)

-- a place in a chain lies within the words
pub newest_within : (b : ℕ) (ks : List (List ℕ)) → newest b ks ≤ words_of ks
newest_within b [] = omega arith
newest_within b (k ∷ ks) = by_bucket (eqb (bucket k) b) (newest_within b ks)
  where
    by_bucket : (c : Bool) → newest b ks ≤ words_of ks → cond c (words_of ks + 1) (newest b ks) ≤ words_of ks + (1 + length k)
    by_bucket true h = omega arith
    by_bucket false h = omega arith

-- the newest key of a bucket: it, and the keys before it
pub record Newest (b : ℕ) (ks : List (List ℕ)) : Type 0 where
  pub key : List ℕ
  pub before : List (List ℕ)
  pub rest : List ℕ
  pub place : newest b ks ≡ words_of before + 1
  pub words : words_written ks ≡ (words_written before ++ (header (newest b before) key ∷ key)) ++ rest
  pub holds : (x : List ℕ) → bucket x ≡ b → is_held x ks ≡ (same x key || is_held x before)
  pub short : length key < 65536
  pub shorts : Short before

other_bucket : (x k : List ℕ) (b : ℕ) → bucket x ≡ b → eqb (bucket k) b ≡ false → same x k ≡ false
other_bucket x k b e n = same_not x k (λ d. eqb-false (bucket k) b n (sym (ap bucket d) ∙ e))

pub newest_key : (b : ℕ) (ks : List (List ℕ)) → Short ks → 0 < newest b ks → Newest b ks
newest_key b [] s h = absurd (omega arith)
newest_key b (k ∷ ks) s h = by_bucket (eqb (bucket k) b) refl (newest_key b ks s.1)
  where
    by_bucket : (c : Bool) → eqb (bucket k) b ≡ c → (0 < newest b ks → Newest b ks) → Newest b (k ∷ ks)
    by_bucket true e r = record {
      key = k;
      before = ks;
      rest = [];
      place = ap (λ (c : Bool). cond c (words_of ks + 1) (newest b ks)) e;
      words = ap (λ (n : ℕ). words_written ks ++ (header (newest n ks) k ∷ k)) (eqb-true (bucket k) b e) ∙ sym (append-nil (words_written ks ++ (header (newest b ks) k ∷ k)));
      holds = λ x d. refl;
      short = s.0;
      shorts = s.1;
    }
    by_bucket false e r =
        let at : newest b (k ∷ ks) ≡ newest b ks = ap (λ (c : Bool). cond c (words_of ks + 1) (newest b ks)) e in
        let n : Newest b ks = r (subst (λ (m : ℕ). 0 < m) at h) in record {
          key = n.key;
          before = n.before;
          rest = n.rest ++ shelf_entry ks k;
          place = at ∙ n.place;
          words = ap (λ (x : List ℕ). x ++ shelf_entry ks k) n.words ∙ append_assoc (words_written n.before ++ (header (newest b n.before) n.key ∷ n.key)) n.rest (shelf_entry ks k);
          holds = λ x d. ap (λ (c : Bool). c || is_held x ks) (other_bucket x k b d e) ∙ n.holds x d;
          short = n.short;
          shorts = n.shorts;
        }

-- a bucket with no key
pub no_newest : (x : List ℕ) (ks : List (List ℕ)) → newest (bucket x) ks ≡ 0 → is_held x ks ≡ false
no_newest x [] h = refl
no_newest x (k ∷ ks) h = by_bucket (eqb (bucket k) (bucket x)) refl (no_newest x ks)
  where
    by_bucket : (c : Bool) → eqb (bucket k) (bucket x) ≡ c → (newest (bucket x) ks ≡ 0 → is_held x ks ≡ false) → is_held x (k ∷ ks) ≡ false
    by_bucket true e r = absurd (omega (arith, sym (ap (λ (c : Bool). cond c (words_of ks + 1) (newest (bucket x) ks)) e) ∙ h))
    by_bucket false e r = ap (λ (c : Bool). c || is_held x ks) (other_bucket x k (bucket x) refl e) ∙ r (sym (ap (λ (c : Bool). cond c (words_of ks + 1) (newest (bucket x) ks)) e) ∙ h)

-- ---- a walk along a chain

-- where a walk stands: at the newest key of its bucket among the older keys, of which those that are left are all that may be the key
pub record Walk (used key : List ℕ) (at : ℕ) : Type 0 where
  pub older : List (List ℕ)
  pub rest : List ℕ
  pub place : at ≡ newest (bucket key) older
  pub words : used ≡ words_written older ++ rest
  pub shorts : Short older
  pub holds : is_held key (shelved_keys used) ≡ is_held key older

pub walk_begins : (used key : List ℕ) (at : ℕ) → Whole used → at ≡ newest (bucket key) (recent_keys used) → Walk used key at
walk_begins used key at w e = record {
  older = recent_keys used;
  rest = [];
  place = e;
  words = sym (append-nil (words_written (recent_keys used)) ∙ w);
  shorts = recent_short used;
  holds = sym (held_reverse key (shelved_keys used));
}

pub walk_ends : (used key : List ℕ) (at : ℕ) → Walk used key at → at ≤ 0 → false ≡ is_held key (shelved_keys used)
walk_ends used key at w h = sym (w.holds ∙ no_newest key w.older (omega (arith, w.place)))

-- the key that a walk stands at, in all the words of which the first n are used
pub record Stop (all : List ℕ) (n : ℕ) (key : List ℕ) (at : ℕ) : Type 0 where
  pub held : List ℕ
  pub link : ℕ
  pub fields : HeaderFields link (hash_of held) (length held) (get_or all (at - 1) 0)
  pub lower : link < at
  pub inside : at + length held ≤ n
  pub words : take (length held) (drop at all) ≡ held
  pub found : same key held ≡ true → true ≡ is_held key (shelved_keys (take n all))
  pub next : same key held ≡ false → Walk (take n all) key link

pub walk_stops : (all : List ℕ) (n : ℕ) (key : List ℕ) (at : ℕ) → n ≤ length all → n ≤ 65536 → Walk (take n all) key at → 0 < at → Stop all n key at
walk_stops all n key at l r w h = record {
  held = s.key;
  link = newest (bucket key) s.before;
  fields = subst (HeaderFields (newest (bucket key) s.before) (hash_of s.key) (length s.key)) (sym read)
      (fields (newest (bucket key) s.before) (hash_of s.key) (length s.key) (omega (arith, lower, inside)) s.short);
  lower = lower;
  inside = inside;
  words = ap (λ (x : List ℕ). take (length s.key) x) behind ∙ take_at s.key more (length s.key) refl;
  found = λ e. sym (holds ∙ ap (λ (b : Bool). b || is_held key s.before) e);
  next = λ e. record {
    older = s.before;
    rest = (header (newest (bucket key) s.before) s.key ∷ s.key) ++ (s.rest ++ w.rest);
    place = refl;
    words = front;
    shorts = s.shorts;
    holds = holds ∙ ap (λ (b : Bool). b || is_held key s.before) e;
  };
}
  where
    s : Newest (bucket key) w.older
    s = newest_key (bucket key) w.older w.shorts (omega (arith, w.place))

    p : ℕ
    p = length (words_written s.before)

    place : at ≡ p + 1
    place = w.place ∙ s.place ∙ ap (λ (x : ℕ). x + 1) (sym (words_long s.before))

    h0 : ℕ
    h0 = header (newest (bucket key) s.before) s.key

    more : List ℕ
    more = (s.rest ++ w.rest) ++ drop n all

    holds : is_held key (shelved_keys (take n all)) ≡ (same key s.key || is_held key s.before)
    holds = w.holds ∙ s.holds key refl

    front : take n all ≡ words_written s.before ++ ((h0 ∷ s.key) ++ (s.rest ++ w.rest))
    front = w.words ∙ ap (λ (x : List ℕ). x ++ w.rest) s.words
        ∙ append_assoc (words_written s.before ++ (h0 ∷ s.key)) s.rest w.rest
        ∙ append_assoc (words_written s.before) (h0 ∷ s.key) (s.rest ++ w.rest)

    whole : all ≡ words_written s.before ++ (h0 ∷ (s.key ++ more))
    whole = sym (take-append-drop n all) ∙ ap (λ (x : List ℕ). x ++ drop n all) front
        ∙ append_assoc (words_written s.before) ((h0 ∷ s.key) ++ (s.rest ++ w.rest)) (drop n all)
        ∙ ap (λ (x : List ℕ). words_written s.before ++ (h0 ∷ x)) (append_assoc s.key (s.rest ++ w.rest) (drop n all))

    read : get_or all (at - 1) 0 ≡ h0
    read = ap₂ (λ (x : List ℕ) (i : ℕ). get_or x i 0) whole (omega (arith, place)) ∙ get_or-append_seam (words_written s.before) h0 (s.key ++ more) 0

    behind : drop at all ≡ s.key ++ more
    behind = ap₂ (λ (i : ℕ) (x : List ℕ). drop i x) place (whole ∙ sym (append_assoc (words_written s.before) (h0 ∷ []) (s.key ++ more)))
        ∙ drop_at (words_written s.before ++ (h0 ∷ [])) (s.key ++ more) (p + 1) (length-append (words_written s.before) (h0 ∷ []))

    lower : newest (bucket key) s.before < at
    lower = omega (arith, newest_within (bucket key) s.before, w.place, s.place)

    inside : at + length s.key ≤ n
    inside = omega (arith, place, length-take-le n all l, ap length front, length-append (words_written s.before) ((h0 ∷ s.key) ++ (s.rest ++ w.rest)), length-append s.key (s.rest ++ w.rest))

-- ---- a key added

-- the header that is written
pub headed : (heads ws k : List ℕ) (hash : ℕ) → hash ≡ hash_of k → hash < 2 ^ 64 → Indexed heads ws
    → hash / 4294967296 * 4294967296 + get_or heads (hash / 18014398509481984) 0 * 65536 + length k ≡ header (newest (bucket k) (recent_keys ws)) k
headed heads ws k hash e r l =
    ap (λ (x : ℕ). hash / 4294967296 * 4294967296 + x * 65536 + length k) (l (hash / 18014398509481984) (omega arith))
    ∙ ap (λ (x : ℕ). x / 4294967296 * 4294967296 + newest (x / 18014398509481984) (recent_keys ws) * 65536 + length k) e

pub indexed_push : (heads ws k : List ℕ) (hash : ℕ) → Whole ws → length k < 65536 → length heads ≡ 1024 → hash ≡ hash_of k → hash < 2 ^ 64 → Indexed heads ws
    → Indexed (set heads (hash / 18014398509481984) (length ws + 1)) (ws ++ shelf_entry (recent_keys ws) k)
indexed_push heads ws k hash w n long e r l b h = sym (ap (newest b) (recent_push ws k w n) ∙ by_bucket (eqb (bucket k) b) refl)
  where
    at : hash / 18014398509481984 ≡ bucket k
    at = ap (λ (x : ℕ). x / 18014398509481984) e

    by_bucket : (c : Bool) → eqb (bucket k) b ≡ c → newest b (k ∷ recent_keys ws) ≡ get_or (set heads (hash / 18014398509481984) (length ws + 1)) b 0
    by_bucket true d =
        ap (λ (c : Bool). cond c (words_of (recent_keys ws) + 1) (newest b (recent_keys ws))) d
        ∙ ap (λ (x : ℕ). x + 1) (sym (words_long (recent_keys ws)) ∙ ap length w)
        ∙ sym (get_or-set_same heads (hash / 18014398509481984) (length ws + 1) 0 (omega (arith, long)))
        ∙ ap (λ (x : ℕ). get_or (set heads (hash / 18014398509481984) (length ws + 1)) x 0) (at ∙ eqb-true (bucket k) b d)
    by_bucket false d =
        ap (λ (c : Bool). cond c (words_of (recent_keys ws) + 1) (newest b (recent_keys ws))) d
        ∙ sym (l b h)
        ∙ sym (get_or-set_other heads (hash / 18014398509481984) b (length ws + 1) 0 (λ q. eqb-false (bucket k) b d (sym (q ∙ at))))

-- a key that fits was written behind the used words: those that are used then
pub record Pushed (all rest : List ℕ) (used now : ℕ) (k : List ℕ) : Type 0 where
  pub within : now ≤ room_of (length rest)
  pub front : take now rest ≡ take used all ++ shelf_entry (recent_keys (take used all)) k
  pub short : length k < 65536

pub pushed : (all rest : List ℕ) (used now : ℕ) (k : List ℕ) → used ≤ room_of (length all)
    → fits_space (length k) (room_of (length all) - length (take used all) - 1) ≡ true → now ≡ used + 1 + length k
    → rest ≡ (take used all ++ shelf_entry (recent_keys (take used all)) k) ++ drop (used + 1 + length k) all → Pushed all rest used now k
pushed all rest used now k h f n e = record {
  within = omega (arith, roomy, same_long);
  front = ap₂ take n e ∙ take_at (take used all ++ shelf_entry (recent_keys (take used all)) k) (drop (used + 1 + length k) all) (used + 1 + length k) long;
  short = omega (arith, roomy);
}
  where
    fit : Fitting (length k) (room_of (length all) - length (take used all) - 1)
    fit = fitting (length k) (room_of (length all) - length (take used all) - 1) f

    roomy : used + 1 + length k ≤ room_of (length all)
    roomy = omega (arith, fit.some, fit.within, length-take-le used all (omega arith))

    long : length (take used all ++ shelf_entry (recent_keys (take used all)) k) ≡ used + 1 + length k
    long = length-append (take used all) (shelf_entry (recent_keys (take used all)) k) ∙ omega (arith, length-take-le used all (omega (arith, roomy)))

    same_long : length rest ≡ length all
    same_long = ap length e ∙ length-append (take used all ++ shelf_entry (recent_keys (take used all)) k) (drop (used + 1 + length k) all)
        ∙ omega (arith, roomy, long, length-drop (used + 1 + length k) all)

-- ---- the state of a shelf, by its words

words_push : (ks : List (List ℕ)) (k : List ℕ) → words_of (ks ++ (k ∷ [])) ≡ words_of ks + (1 + length k)
words_push [] k = refl
words_push (x ∷ ks) k = omega (arith, words_push ks k)

words_reverse : (ks : List (List ℕ)) → words_of (reverse ks) ≡ words_of ks
words_reverse [] = refl
words_reverse (k ∷ ks) = ap words_of (reverse_more ks k) ∙ words_push (reverse ks) k ∙ ap (λ (n : ℕ). n + (1 + length k)) (words_reverse ks)

-- its keys take just these words
pub words_taken : (ws : List ℕ) → Whole ws → words_of (shelved_keys ws) ≡ length ws
words_taken ws w = sym (words_reverse (shelved_keys ws)) ∙ sym (words_long (recent_keys ws)) ∙ ap length w

pub space_free : (ws : List ℕ) (room : ℕ) → Whole ws → (shelf_view (shelf_state ws room)).space ≡ room - length ws - 1
space_free ws room w = ap (λ (n : ℕ). room - n - 1) (words_taken ws w)

-- a key that fits joins the others
pub state_more : (ws vs rest all k : List ℕ) → Whole ws → length ws ≤ length all → fits_space (length k) (room_of (length all) - length ws - 1) ≡ true
    → vs ≡ ws ++ shelf_entry (recent_keys ws) k → rest ≡ vs ++ drop (length vs) all → shelf_state vs (room_of (length rest)) ≡ pushed_state (shelf_state ws (room_of (length all))) k
state_more ws vs rest all k w l f e d =
    ap₂ shelf_state e (ap room_of same_long) ∙ ap (λ (x : List (List ℕ)). record { held = x; room = room_of (length all) }) (shelved_push ws k w (omega (arith, fit.some, fit.within)))
  where
    fit : Fitting (length k) (room_of (length all) - length ws - 1)
    fit = fitting (length k) (room_of (length all) - length ws - 1) f

    same_long : length rest ≡ length all
    same_long = ap length d ∙ length-append vs (drop (length vs) all)
        ∙ omega (arith, fit.some, fit.within, ap length e, length-append ws (shelf_entry (recent_keys ws) k), length-drop (length vs) all)

-- a key that is empty or too long does not fit
pub fits_not : (n room used : ℕ) → (n ≡ 0) ⊎ (room - used ≤ n) → fits_space n (room - used - 1) ≡ false
fits_not zero room used h = refl
fits_not (suc n) room used (inl e) = absurd (omega arith)
fits_not (suc n) room used (inr l) = and_right (ltb 0 (suc n)) (leb (suc n) (room - used - 1)) (lt-leb (suc n) (room - used - 1) (omega arith))
