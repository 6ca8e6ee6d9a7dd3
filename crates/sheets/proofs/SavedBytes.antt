-- Bytes saved at the front of a buffer, or a buffer that is too short for them.
use Rattle.std.proofs.Common.{◌≡◌, ℕ, ◌<◌, ◌≤◌, Bool, cond, List, ◌++◌, length, drop, Ok, Err, Result, sym, ap, ◌∙◌}
use Rattle.std.proofs.lemmas.Bool.{lt-leb, le-leb}
use Rattle.table.specs.declared.refusal.Refusal.{Refusal}
use Rattle.table.specs.declared.refusal.Refusal.TheVariants.{ShortBuffer}
use Rattle.rows.specs.Written.{written}
use Rattle.rows.proofs.Places.{written_front}
use Rattle.sheets.specs.Saving.{written_answer, buffer_after}

-- the answer, by whether the bytes fit
abbrev answer_if : List ℕ → Bool → Result ℕ Refusal
answer_if bytes fits = cond fits (Ok (length bytes)) (Err ShortBuffer)

pub short_answer : (bytes buffer : List ℕ) → length buffer < length bytes → Err ShortBuffer ≡ written_answer bytes buffer
short_answer bytes buffer h = ap (answer_if bytes) (sym (lt-leb (length bytes) (length buffer) h))

pub short_after : (bytes buffer : List ℕ) → length buffer < length bytes → buffer ≡ buffer_after bytes buffer
short_after bytes buffer h =
    ap (λ (b : Bool). cond b (bytes ++ drop (length bytes) buffer) buffer) (sym (lt-leb (length bytes) (length buffer) h))

pub saved_answer : (bytes buffer : List ℕ) (n : ℕ) → n ≡ length bytes → length bytes ≤ length buffer → Ok n ≡ written_answer bytes buffer
saved_answer bytes buffer n e h = ap Ok e ∙ ap (answer_if bytes) (sym (le-leb (length bytes) (length buffer) h))

pub saved_after : (bytes buffer after : List ℕ) → after ≡ written 0 bytes buffer → length bytes ≤ length buffer → after ≡ buffer_after bytes buffer
saved_after bytes buffer after e h =
    e ∙ written_front bytes buffer h ∙ ap (λ (b : Bool). cond b (bytes ++ drop (length bytes) buffer) buffer) (sym (le-leb (length bytes) (length buffer) h))
