use Rattle.std.proofs.Common.{◌≡◌, length}
use Rattle.rows.specs.Views.{row_of}
use Rattle.rows.specs.Reading.{with_members_in}
use Rattle.rows.proofs.reading.push_members.Given as goal

abbrev pub invariant-loop-left : goal.invariant-loop-left
invariant-loop-left l = with_members_in (row_of l.row) l.left ≡ with_members_in (row_of l.initial.row) l.bytes

abbrev pub decreases-loop-left : goal.decreases-loop-left
decreases-loop-left l = length l.left
