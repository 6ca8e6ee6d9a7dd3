-- The number and the message of each refusal.
use Rattle.std.specs.Prelude.{ℕ, List, codes}
use Rattle.rows.specs.declared.refusal.KindRefusal.{KindRefusal}
use Rattle.rows.specs.declared.refusal.KindRefusal.TheVariants.{Undeclared, RuleBroken}
use Rattle.rows.specs.declared.refusal.RowRefusal.{RowRefusal}
use Rattle.rows.specs.declared.refusal.RowRefusal.TheVariants.{UnknownLetter, BadCount, WrongLength, UnmarkedMember, ByKind}
use Rattle.rows.specs.declared.row.RowError.{RowError}
use Rattle.rows.specs.declared.row.RowError.TheVariants.{MemberCount, LargeValue, OutOfMemory}

abbrev pub kind_number : KindRefusal → ℕ
kind_number Undeclared = 8
kind_number RuleBroken = 9

abbrev pub kind_message : KindRefusal → List ℕ
kind_message Undeclared = codes "a voice of the row is not declared"
kind_message RuleBroken = codes "the row breaks a rule of its kind"

abbrev pub row_number : RowRefusal → ℕ
row_number UnknownLetter = 2
row_number BadCount = 5
row_number WrongLength = 6
row_number UnmarkedMember = 7
row_number (ByKind refusal) = kind_number refusal

abbrev pub row_message : RowRefusal → List ℕ
row_message UnknownLetter = codes "the row's letter is missing or not known"
row_message BadCount = codes "the row's count of members is missing or not 1 to 32"
row_message WrongLength = codes "the row has not the length that its letter and count ask for"
row_message UnmarkedMember = codes "a member of the row does not begin with its mark"
row_message (ByKind refusal) = kind_message refusal

-- why a constructor makes no row
abbrev pub row_error_message : RowError → List ℕ
row_error_message MemberCount = codes "a row has 1 to 32 members"
row_error_message LargeValue = codes "a value is above 63"
row_error_message OutOfMemory = codes "there is no memory for a row"
