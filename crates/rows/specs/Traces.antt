-- A trace as the two words that stand for it in a key.
use Rattle.std.specs.Prelude.{ℕ}
use Rattle.rows.specs.declared.trace.Trace.{Trace}
use Rattle.rows.specs.declared.trace.Trace.TheVariants.{Settled, Open}

-- its mark: 0 where it is settled, 1 where it is open
abbrev pub mark_word : Trace → ℕ
mark_word Settled = 0
mark_word (Open content) = 1

-- its content: 0 where it is settled
abbrev pub content_word : Trace → ℕ
content_word Settled = 0
content_word (Open content) = content
