-- Words written one after the other over a list.
use Rattle.std.proofs.Common.{◌≡◌, ℕ, ◌+◌, ◌-◌, ◌*◌, ◌<◌, ◌≤◌, List, [], ◌∷◌, ◌++◌, map, length, get_or, take, drop, set, sym, refl, ap, ◌∙◌, ap₂, arith}
use Rattle.std.proofs.lemmas.List.{drop_more, drop_all, length-drop, set_at, append_assoc, length-append, length-map, length-take-le, map_more, take_at, drop_at, drop-drop, take_all, append-nil}
use borrow.Rule.Slice.PartMut.{put_mid}
use Rattle.rows.specs.declared.row.Row.{Row}
use Rattle.rows.specs.Rows.{RowData, Meaning}
use Rattle.rows.specs.Traces.{mark_word, content_word}
use Rattle.rows.specs.Views.{row_of, rows_of}
use Rattle.stores.specs.Keys.{voice_word, voice_words, trace_words, key}

-- one word more
pub put_more : (done old : List ℕ) (i v : ℕ) → length done ≡ i → i < length old → set (done ++ drop i old) i v ≡ (done ++ (v ∷ [])) ++ drop (i + 1) old
put_more done old i v e h =
    ap (λ (x : List ℕ). set (done ++ x) i v) (drop_more old i 0 h)
    ∙ set_at done (get_or old i 0) (drop (i + 1) old) v i e
    ∙ sym (append_assoc done (v ∷ []) (drop (i + 1) old))

pub trace_push : (m : Meaning) (s : List ℕ) (rows : List RowData) (r : RowData)
    → trace_words m s (rows ++ (r ∷ [])) ≡ trace_words m s rows ++ (mark_word (m.trace r s) ∷ (content_word (m.trace r s) ∷ []))
trace_push m s [] r = refl
trace_push m s (x ∷ rows) r = ap (λ (l : List ℕ). mark_word (m.trace x s) ∷ (content_word (m.trace x s) ∷ l)) (trace_push m s rows r)

pub trace_length : (m : Meaning) (s : List ℕ) (rows : List RowData) → length (trace_words m s rows) ≡ 2 * length rows
trace_length m s [] = refl
trace_length m s (r ∷ rows) = omega (arith, trace_length m s rows)

-- the voices' words, one more
pub voices_more : (s old words : List ℕ) (i v : ℕ) → i < length s → i < length old → words ≡ map voice_word (take i s) ++ drop i old → v ≡ voice_word (get_or s i 0)
    → set words i v ≡ map voice_word (take (i + 1) s) ++ drop (i + 1) old
voices_more s old words i v h k e d =
    ap (λ (x : List ℕ). set x i v) e
    ∙ put_more (map voice_word (take i s)) old i v (length-map (take i s) voice_word ∙ length-take-le i s (omega arith)) k
    ∙ ap (λ (x : ℕ). (map voice_word (take i s) ++ (x ∷ [])) ++ drop (i + 1) old) d
    ∙ ap (λ (x : List ℕ). x ++ drop (i + 1) old) (sym (map_more voice_word s i 0 h))

-- the traces, one more: part is what is copied over the k words from the place on
pub traces_more : (m : Meaning) (s : List ℕ) (rows : List Row) (i : ℕ) (r : Row) (old words part : List ℕ) (k : ℕ)
    → i < length rows → r ≡ get_or rows i r → k ≡ 2
    → part ≡ mark_word (m.trace (row_of r) s) ∷ (content_word (m.trace (row_of r) s) ∷ [])
    → words ≡ trace_words m s (rows_of (take i rows)) ++ drop (2 * i) old
    → put_mid (2 * i) k words part ≡ trace_words m s (rows_of (take (i + 1) rows)) ++ drop (2 * (i + 1)) old
traces_more m s rows i r old words part k h is two p w =
    ap₂ (λ (x y : List ℕ). x ++ (part ++ y)) before behind
    ∙ sym (append_assoc done part (drop (2 * (i + 1)) old))
    ∙ ap (λ (x : List ℕ). x ++ drop (2 * (i + 1)) old) (sym next)
  where
    done : List ℕ
    done = trace_words m s (rows_of (take i rows))

    long : length done ≡ 2 * i
    long = omega (arith, trace_length m s (rows_of (take i rows)), length-map (take i rows) row_of, length-take-le i rows (omega arith))

    before : take (2 * i) words ≡ done
    before = ap (take (2 * i)) w ∙ take_at done (drop (2 * i) old) (2 * i) long

    on : 2 * i + k ≡ 2 * (i + 1)
    on = omega arith

    behind : drop k (drop (2 * i) words) ≡ drop (2 * (i + 1)) old
    behind = ap (drop k) (ap (drop (2 * i)) w ∙ drop_at done (drop (2 * i) old) (2 * i) long) ∙ drop-drop k (2 * i) old ∙ ap (λ (n : ℕ). drop n old) on

    next : trace_words m s (rows_of (take (i + 1) rows)) ≡ done ++ part
    next = ap (trace_words m s) (map_more row_of rows i r h ∙ ap (λ (x : Row). rows_of (take i rows) ++ (row_of x ∷ [])) (sym is))
        ∙ trace_push m s (rows_of (take i rows)) (row_of r)
        ∙ ap (λ (x : List ℕ). done ++ x) (sym p)

-- how long a key is
pub key_length : (m : Meaning) (rows : List Row) (s : List ℕ) → length (key m (rows_of rows) s) ≡ length s + 2 * length rows
key_length m rows s = length-append (voice_words s) (trace_words m s (rows_of rows)) ∙ omega (arith, length-map s voice_word, trace_length m s (rows_of rows), length-map rows row_of)

-- voices first, then traces, over all words behind the voices
pub key_words : (m : Meaning) (rows : List Row) (s old first part : List ℕ)
    → first ≡ voice_words s ++ drop (length s) old
    → part ≡ trace_words m s (rows_of rows) ++ drop (2 * length rows) (take (length first - length s) (drop (length s) first))
    → put_mid (length s) (length first - length s) first part ≡ key m (rows_of rows) s ++ drop (length s + 2 * length rows) old
key_words m rows s old first part e d =
    ap₂ (λ (x y : List ℕ). x ++ (part ++ y)) front none
    ∙ ap (λ (x : List ℕ). voice_words s ++ x) (append-nil part ∙ d ∙ ap (λ (x : List ℕ). trace_words m s (rows_of rows) ++ x) rest)
    ∙ sym (append_assoc (voice_words s) (trace_words m s (rows_of rows)) (drop (length s + 2 * length rows) old))
  where
    front : take (length s) first ≡ voice_words s
    front = ap (take (length s)) e ∙ take_at (voice_words s) (drop (length s) old) (length s) (length-map s voice_word)

    back : drop (length s) first ≡ drop (length s) old
    back = ap (drop (length s)) e ∙ drop_at (voice_words s) (drop (length s) old) (length s) (length-map s voice_word)

    few : length (drop (length s) first) ≤ length first - length s
    few = omega (arith, length-drop (length s) first)

    none : drop (length first - length s) (drop (length s) first) ≡ []
    none = drop_all (length first - length s) (drop (length s) first) few

    rest : drop (2 * length rows) (take (length first - length s) (drop (length s) first)) ≡ drop (length s + 2 * length rows) old
    rest = ap (drop (2 * length rows)) (take_all (length first - length s) (drop (length s) first) few ∙ back) ∙ drop-drop (2 * length rows) (length s) old
