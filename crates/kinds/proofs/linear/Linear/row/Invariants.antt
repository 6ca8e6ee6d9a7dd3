use Rattle.std.proofs.Common.{◌≡◌, ◌∷◌, map, length, take}
use Rattle.std.specs.Int.{w32, to_le_bytes, cast_unsigned}
use Rattle.rows.specs.Views.{row_of}
use Rattle.kinds.proofs.linear.Linear.row.Given as goal

abbrev pub invariant-loop-voice : goal.invariant-loop-voice
invariant-loop-voice l = row_of l.row ≡ record {
  letter = 0x4C;
  body = length l.terms ∷ to_le_bytes w32 (cast_unsigned w32 l.fn.bound);
  members = map (λ t. record { voice = t.0; argument = t.1 }) (take l.voice-index l.terms);
}
