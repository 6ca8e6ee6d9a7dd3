use Rattle.std.proofs.Common.{◌≡◌, [], ◌∷◌, map, length, take, pos}
use Rattle.rows.specs.Views.{row_of}
use Rattle.kinds.proofs.element.Element.row.Given as goal

abbrev pub invariant-loop-entry : goal.invariant-loop-entry
invariant-loop-entry l = row_of l.row ≡ record { letter = 0x45; body = length l.entries ∷ l.fn.index ∷ l.fn.held_by ∷ []; members = map (λ e. record { voice = 0; argument = pos e }) (take l.entry-index l.entries) }
