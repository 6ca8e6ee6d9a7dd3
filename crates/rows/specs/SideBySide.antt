-- Two lawful banks side by side are a lawful bank.
use Rattle.std.specs.Prelude.{◌≡◌, ℕ, Bool, true, false, cond, ◌||◌, length, refl}
use Rattle.rows.specs.Rows.{RowData, Meaning, with_letter, beside}
use Rattle.rows.specs.Laws.{Laws, Lettered, Accepted}

either : (k : Bool) (a b : Meaning) → Laws a → Laws b → Laws (cond k a b)
either true a b x y = x
either false a b x y = y

-- the first bank that knows the letter knows it
first_knows : (a b : Meaning) (l : ℕ) (k : Bool) → a.known l ≡ k → (k || b.known l) ≡ true → (cond k a b).known l ≡ true
first_knows a b l true e h = e
first_knows a b l false e h = h

-- a row that the two accept is accepted by the one that it goes to
pub accepted_by_one : (a b : Meaning) (r : RowData) (n : ℕ) → Accepted (beside a b) r n → Accepted (with_letter a b r.letter) r n
accepted_by_one a b r n h = record {
  shape = record {
    known_letter = first_knows a b r.letter (a.known r.letter) refl h.shape.known_letter;
    long_body = h.shape.long_body;
    counted = h.shape.counted;
    some_members = h.shape.some_members;
    few_members = h.shape.few_members;
  };
  yes = h.yes;
}

pub beside_lawful : (a b : Meaning) → Laws a → Laws b → Laws (beside a b)
beside_lawful a b x y = record {
  lettered = letters;
  narrows = λ r s h. (here r).narrows r s (accepted_by_one a b r (length s) h);
  sound = λ r s p h. (here r).sound r s p (accepted_by_one a b r (length s) h);
  checks = λ r s h. (here r).checks r s (accepted_by_one a b r (length s) h);
  projects = λ r s t p q h. (here r).projects r s t p q (accepted_by_one a b r (length s) h);
  stays = λ r n k h. record { shape = h.shape; yes = ((here r).stays r n k (accepted_by_one a b r n h)).yes };
  holds_more = λ r p q h. (here r).holds_more r p q (accepted_by_one a b r (length p) h);
  turn_more = λ r s t h. (here r).turn_more r s t (accepted_by_one a b r (length s) h);
  trace_more = λ r s t h. (here r).trace_more r s t (accepted_by_one a b r (length s) h);
}
  where
    here : (r : RowData) → Laws (with_letter a b r.letter)
    here r = either (a.known r.letter) a b x y

    letters : (l : ℕ) → (a.known l || b.known l) ≡ true → Lettered (beside a b) l
    letters l h =
        let z = (either (a.known l) a b x y).lettered l (first_knows a b l (a.known l) refl h) in
        record { free = z.free; some_body = z.some_body; short_body = z.short_body }
