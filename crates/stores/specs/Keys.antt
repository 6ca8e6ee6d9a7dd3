-- The key of a list of sets: what is left of a node once its fixed voices are taken away.
use Rattle.std.specs.Prelude.{ℕ, cond, List, [], ◌∷◌, ◌++◌, map, length, drop, Some, None, Option, nat_le}
use Rattle.sets.specs.Sets.{fixed}
use Rattle.rows.specs.Rows.{RowData, Meaning}
use Rattle.rows.specs.Traces.{mark_word, content_word}

-- a voice's word: 0 where it is fixed, otherwise its set
abbrev pub voice_word : ℕ → ℕ
voice_word s = cond (fixed s) 0 s

abbrev pub voice_words : List ℕ → List ℕ
voice_words sets = map voice_word sets

-- each row's trace, mark and content, in row order
abbrev pub trace_words : Meaning → List ℕ → List RowData → List ℕ
trace_words m sets [] = []
trace_words m sets (r ∷ rows) =
    mark_word (m.trace r sets) ∷ (content_word (m.trace r sets) ∷ trace_words m sets rows)

abbrev pub key : Meaning → List RowData → List ℕ → List ℕ
key m rows sets = voice_words sets ++ trace_words m sets rows

-- what `write_key` returns (the key's length, or none where there is no room), and the words then:
-- those beyond the key stay
abbrev pub put_answer : List ℕ → List ℕ → Option ℕ
put_answer k words = cond (nat_le (length k) (length words)) (Some (length k)) None

abbrev pub put_after : List ℕ → List ℕ → List ℕ
put_after k words = cond (nat_le (length k) (length words)) (k ++ drop (length k) words) words
