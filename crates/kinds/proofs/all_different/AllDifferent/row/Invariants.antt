use Rattle.std.proofs.Common.{◌≡◌, [], ◌∷◌, map, length, take, pos}
use Rattle.rows.specs.Views.{row_of}
use Rattle.kinds.proofs.all_different.AllDifferent.row.Given as goal

abbrev pub invariant-loop-voice : goal.invariant-loop-voice
invariant-loop-voice l = row_of l.row ≡ record { letter = 0x41; body = length l.voices ∷ []; members = map (λ v. record { voice = v; argument = pos 0 }) (take l.voice-index l.voices) }
