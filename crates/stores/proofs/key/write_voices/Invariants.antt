use Rattle.std.proofs.Common.{◌≡◌, ◌++◌, take, drop}
use Rattle.stores.specs.Keys.{voice_words}
use Rattle.stores.proofs.key.write_voices.Given as goal

abbrev pub invariant-loop-i : goal.invariant-loop-i
invariant-loop-i l = l.words ≡ voice_words (take l.i l.sets) ++ drop l.i l.initial.words
