-- The number and the message of each refusal.
use Rattle.std.specs.Prelude.{ℕ, List, codes}
use Rattle.rows.specs.Refusals.{row_number, row_message}
use Rattle.table.specs.declared.refusal.Refusal.{Refusal}
use Rattle.table.specs.declared.refusal.Refusal.TheVariants.{Row, EmptySet, VoicesFull, RowsFull, BudgetRange, NodesSpent, NothingFound, ShortBuffer}

abbrev pub refusal_number : Refusal → ℕ
refusal_number (Row refusal) = row_number refusal
refusal_number EmptySet = 10
refusal_number VoicesFull = 11
refusal_number RowsFull = 12
refusal_number BudgetRange = 13
refusal_number NodesSpent = 14
refusal_number NothingFound = 15
refusal_number ShortBuffer = 16

abbrev pub refusal_message : Refusal → List ℕ
refusal_message (Row refusal) = row_message refusal
refusal_message EmptySet = codes "the voice's set has no value"
refusal_message VoicesFull = codes "the table has as many voices as it can have"
refusal_message RowsFull = codes "the table has as many rows, or bytes of rows, as it can have"
refusal_message BudgetRange = codes "the budget is not 1 to 1,000,000"
refusal_message NodesSpent = codes "with this budget the search could open more nodes than it may"
refusal_message NothingFound = codes "nothing was found"
refusal_message ShortBuffer = codes "the buffer is too short"
