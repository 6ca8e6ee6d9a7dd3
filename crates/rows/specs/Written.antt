-- Bytes written into a buffer.
use Rattle.std.specs.Prelude.{◌≡◌, ℕ, ◌+◌, ◌-◌, ◌^◌, min, List, ◌++◌, length, take, drop}
use Rattle.rows.specs.declared.writer.Writer.{Writer}

-- from the place `at` on, as many as fit: the buffer's own bytes stay before and behind them
abbrev pub written : ℕ → List ℕ → List ℕ → List ℕ
written at bytes buffer =
    take (length buffer) (take at buffer ++ (bytes ++ drop (at + length bytes) buffer))

-- A writer writes these bytes: the place behind them, or the last one that can be counted; the
-- buffer then; and it is the same buffer.
pub record Wrote (bytes : List ℕ) (before after : Writer) : Type 0 where
  pub place : after.at ≡ min (before.at + length bytes) (2 ^ 64 - 1)
  pub buffer : after.out.now ≡ written before.at bytes before.out.now
  pub same : after.out.ghost_name ≡ before.out.ghost_name
