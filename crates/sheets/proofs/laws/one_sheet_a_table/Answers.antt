use Rattle.sheets.proofs.LawsHold.{sheet_laws_hold}
use Rattle.sheets.proofs.laws.one_sheet_a_table.Goals as goal

pub returns : goal.returns
returns c = sheet_laws_hold
