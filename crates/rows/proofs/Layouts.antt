-- Rows of the layout and their bytes stand for each other.
use Rattle.std.proofs.Common.{◌≡◌, ℕ, zero, suc, ◌+◌, ◌*◌, ◌/◌, ◌%◌, ◌<◌, ◌≤◌, true, false, ◌&&◌, eqb, ltb, leb, List, [], ◌∷◌, ◌++◌, length, get_or, take, drop, ℤ, pos, negsuc, sym, refl, ap, ◌∙◌, subst, arith, w16, SFits, to_z, of_z}
use mir.ValLaws.{to_z-Fits}
use Rattle.std.proofs.lemmas.Int.{to_z-of_z, of_z-to_z}
use Rattle.std.proofs.lemmas.Bool.{both_ways, and_parts, and_from, eqb-true, eq-eqb, leb-true, le-leb, lt-ltb}
use Rattle.std.proofs.lemmas.List.{length-append, length-drop, take-append-drop, take_at, drop_at, get_or_append_left}
use Rattle.rows.specs.declared.member.Member.{Member}
use Rattle.rows.specs.Rows.{RowData, Meaning}
use Rattle.rows.specs.Bytes.{Bytes, count_byte, head_length, marked, members_in, decode, member_bytes, encode, MembersFit, LaidOut, Layout}

-- ---- bytes one by one

bytes_tail : (b : ℕ) (bs : List ℕ) → Bytes (b ∷ bs) → Bytes bs
bytes_tail b bs h i l = h (suc i) (omega arith)

bytes_cons : (b : ℕ) (bs : List ℕ) → b < 256 → Bytes bs → Bytes (b ∷ bs)
bytes_cons b bs x h zero l = x
bytes_cons b bs x h (suc i) l = h i (omega arith)

bytes_four : (a b c d : ℕ) (bs : List ℕ) → a < 256 → b < 256 → c < 256 → d < 256 → Bytes bs → Bytes (a ∷ b ∷ c ∷ d ∷ bs)
bytes_four a b c d bs x y z w h =
    bytes_cons a (b ∷ c ∷ d ∷ bs) x (bytes_cons b (c ∷ d ∷ bs) y (bytes_cons c (d ∷ bs) z (bytes_cons d bs w h)))

bytes_nil : Bytes []
bytes_nil i l = absurd (omega arith)

bytes_append : (xs ys : List ℕ) → Bytes xs → Bytes ys → Bytes (xs ++ ys)
bytes_append [] ys a b = b
bytes_append (x ∷ xs) ys a b = bytes_cons x (xs ++ ys) (a 0 (omega arith)) (bytes_append xs ys (bytes_tail x xs a) b)

pub bytes_take : (n : ℕ) (bs : List ℕ) → Bytes bs → Bytes (take n bs)
bytes_take zero bs h = bytes_nil
bytes_take (suc n) [] h = bytes_nil
bytes_take (suc n) (b ∷ bs) h = bytes_cons b (take n bs) (h 0 (omega arith)) (bytes_take n bs (bytes_tail b bs h))

pub bytes_drop : (n : ℕ) (bs : List ℕ) → Bytes bs → Bytes (drop n bs)
bytes_drop zero bs h = h
bytes_drop (suc n) [] h = h
bytes_drop (suc n) (b ∷ bs) h = bytes_drop n bs (bytes_tail b bs h)

-- ---- one argument

arg_bits : (z : ℤ) → SFits w16 z → of_z w16 z < 65536
arg_bits (pos n) f = omega (arith, f.sfits)
arg_bits (negsuc n) f = omega (arith, f.sfits)

arg_back : (low high : ℕ) → low < 256 → high < 256 → of_z w16 (to_z w16 (low + 0x100 * high)) ≡ low + 0x100 * high
arg_back low high a b = of_z-to_z w16 (low + 0x100 * high) (omega arith)

-- ---- members

-- n members of four bytes
record Read (n : ℕ) (bs : List ℕ) : Type 0 where
  back : member_bytes (members_in bs) ≡ bs
  many : length (members_in bs) ≡ n
  fit : MembersFit (members_in bs)

read_members : (bs : List ℕ) (n : ℕ) → length bs ≡ 4 * n → marked bs ≡ true → Bytes bs → Read n bs
read_members [] n l k h = record { back = refl; many = omega arith; fit = tt }
read_members (a ∷ []) n l k h = absurd (omega arith)
read_members (a ∷ v ∷ []) n l k h = absurd (omega arith)
read_members (a ∷ v ∷ low ∷ []) n l k h = absurd (omega arith)
read_members (a ∷ v ∷ low ∷ high ∷ bs) zero l k h = absurd (omega arith)
read_members (a ∷ v ∷ low ∷ high ∷ bs) (suc n) l k h =
    let c = and_parts (eqb a 0x4D) (marked bs) k in
    let x = h 2 (omega arith) in
    let y = h 3 (omega arith) in
    let e = arg_back low high x y in
    let r = read_members bs n (omega arith) c.1 (λ i b. h (suc (suc (suc (suc i)))) (omega arith)) in
    let z : of_z w16 (to_z w16 (low + 0x100 * high)) % 0x100 ≡ low = omega (arith, e) in
    let w : of_z w16 (to_z w16 (low + 0x100 * high)) / 0x100 ≡ high = omega (arith, e) in
    record {
      back = λ i. sym (eqb-true a 0x4D c.0) i ∷ v ∷ z i ∷ w i ∷ r.back i;
      many = ap suc r.many;
      fit = (h 1 (omega arith), to_z-Fits w16 (low + 0x100 * high) (record { fits = omega arith }), r.fit);
    }

record Wrote (xs : List Member) : Type 0 where
  back : members_in (member_bytes xs) ≡ xs
  many : length (member_bytes xs) ≡ 4 * length xs
  marks : marked (member_bytes xs) ≡ true
  bytes : Bytes (member_bytes xs)

write_members : (xs : List Member) → MembersFit xs → Wrote xs
write_members [] f = record { back = refl; many = refl; marks = refl; bytes = bytes_nil }
write_members (x ∷ xs) f =
    let r = write_members xs f.2 in
    let n = of_z w16 x.argument in
    let b = arg_bits x.argument f.1 in
    let e : to_z w16 (n % 0x100 + 0x100 * (n / 0x100)) ≡ x.argument = ap (to_z w16) (omega arith) ∙ to_z-of_z w16 x.argument f.1 in
    record {
      back = λ i. record { voice = x.voice; argument = e i } ∷ r.back i;
      many = omega (arith, r.many);
      marks = r.marks;
      bytes = bytes_four 0x4D x.voice (n % 0x100) (n / 0x100) (member_bytes xs) (omega arith) f.0 (omega arith) (omega arith) r.bytes;
    }

-- ---- rows

-- a body with a first byte is not empty
some_body : (body : List ℕ) → 1 ≤ get_or body 0 0 → 0 < length body
some_body [] h = absurd (omega arith)
some_body (x ∷ body) h = omega arith

write_row : (m : Meaning) (r : RowData) → LaidOut m r → Bytes (encode r) × Layout m (encode r) × (decode m (encode r) ≡ r)
write_row m r o =
    let mb = member_bytes r.members in
    let w = write_members r.members o.members_fit in
    let n = length-append r.body mb in
    let e : count_byte (encode r) ≡ length r.members = get_or_append_left r.body mb 0 0 (some_body r.body o.shape.some_members) ∙ sym o.shape.counted in
    let d : drop (head_length m (encode r)) (encode r) ≡ mb = drop_at r.body mb (m.body_length r.letter) o.shape.long_body in (
      bytes_cons r.letter (r.body ++ mb) o.letter_fits (bytes_append r.body mb o.body_fits w.bytes),
      record {
        letters = and_from (ltb 0 (length (encode r))) (m.known r.letter) (lt-ltb 0 (length (encode r)) (omega arith)) o.shape.known_letter;
        counts = and_from (ltb 1 (length (encode r))) (leb 1 (count_byte (encode r)) && leb (count_byte (encode r)) 32)
            (lt-ltb 1 (length (encode r)) (omega (arith, n, w.many, o.shape.some_members)))
            (and_from (leb 1 (count_byte (encode r))) (leb (count_byte (encode r)) 32) (le-leb 1 (count_byte (encode r)) (omega (arith, e, o.shape.some_members))) (le-leb (count_byte (encode r)) 32 (omega (arith, e, o.shape.few_members))));
        long = eq-eqb (length (encode r)) (head_length m (encode r) + 4 * count_byte (encode r)) (omega (arith, n, w.many, e, o.shape.long_body));
        marks = subst (λ (x : List ℕ). marked x ≡ true) (sym d) w.marks;
      },
      (λ i. record {
        letter = r.letter;
        body = take_at r.body mb (m.body_length r.letter) o.shape.long_body i;
        members = (ap members_in d ∙ w.back) i;
      }),
    )

-- the body's first byte is the count: with no body it would be hex 4D
front : (k : ℕ) (bs : List ℕ) → length bs ≡ k + 4 * get_or bs 0 0 → 1 ≤ get_or bs 0 0 → get_or bs 0 0 ≤ 32 → marked (drop k bs) ≡ true → get_or (take k bs) 0 0 ≡ get_or bs 0 0
front k [] l a b h = absurd (omega arith)
front (suc k) (x ∷ bs) l a b h = refl
front zero (x ∷ []) l a b h = absurd (omega arith)
front zero (x ∷ y ∷ []) l a b h = absurd (omega arith)
front zero (x ∷ y ∷ z ∷ []) l a b h = absurd (omega arith)
front zero (x ∷ y ∷ z ∷ w ∷ bs) l a b h = absurd (omega (arith, eqb-true x 0x4D (and_parts (eqb x 0x4D) (marked bs) h).0))

read_row : (m : Meaning) (bs : List ℕ) → Bytes bs → Layout m bs → LaidOut m (decode m bs) × (encode (decode m bs) ≡ bs)
read_row m [] h o = absurd (both_ways false refl (and_parts (ltb 0 0) (m.known 0) o.letters).0)
read_row m (a ∷ bs) h o =
    let k = m.body_length a in
    let n = get_or bs 0 0 in
    let c = and_parts (leb 1 n) (leb n 32) (and_parts (ltb 1 (suc (length bs))) (leb 1 n && leb n 32) o.counts).1 in
    let one : 1 ≤ n = leb-true 1 n c.0 in
    let most : n ≤ 32 = leb-true n 32 c.1 in
    let l : length bs ≡ k + 4 * n = omega (arith, eqb-true (suc (length bs)) (suc k + 4 * n) o.long) in
    let t = bytes_tail a bs h in
    let r = read_members (drop k bs) n (omega (arith, l, length-drop k bs)) o.marks (bytes_drop k bs t) in
    let same = front k bs l one most o.marks in
    let whole = take-append-drop k bs in (
      record {
        shape = record {
          known_letter = (and_parts (ltb 0 (suc (length bs))) (m.known a) o.letters).1;
          long_body = omega (arith, l, ap length whole, length-append (take k bs) (drop k bs), length-drop k bs);
          counted = r.many ∙ sym same;
          some_members = omega (arith, one, same);
          few_members = omega (arith, most, same);
        };
        letter_fits = h 0 (omega arith);
        body_fits = bytes_take k bs t;
        members_fit = r.fit;
      },
      ap (λ (x : List ℕ). a ∷ x) (ap (λ (x : List ℕ). take k bs ++ x) r.back ∙ whole),
    )

pub bytes_both_ways : (m : Meaning)
    → ((r : RowData) → LaidOut m r → Bytes (encode r) × Layout m (encode r) × (decode m (encode r) ≡ r))
    × ((bs : List ℕ) → Bytes bs → Layout m bs → LaidOut m (decode m bs) × (encode (decode m bs) ≡ bs))
bytes_both_ways m = (write_row m, read_row m)
