-- What Report writes. Lines end in hex 0A; numbers are in decimal.
use Rattle.std.specs.Prelude.{ℕ, suc, List, [], ◌∷◌, ◌++◌, codes, decimal, Ok, Err, Result}
use Rattle.search.specs.Calls.{TableData, result}
use Rattle.table.specs.declared.outcome.Outcome.{Outcome}
use Rattle.table.specs.Outcomes.{outcome_name}
use Rattle.table.specs.Searches.{outcome_of}
use Rattle.sheets.specs.declared.refusal.Layer.{Layer}
use Rattle.sheets.specs.declared.refusal.SheetRefusal.{SheetRefusal}
use Rattle.sheets.specs.Causes.{cause_number, layer_name, cause_layer}
use Rattle.sheets.specs.Loading.{LoadAnswer}
use Rattle.sheets.specs.Loading.LoadAnswer.{sheet_loaded, sheet_fault}

-- what ends a line
abbrev pub line_end : List ℕ
line_end = 0x0A ∷ []

-- ---- a sheet that was refused

-- as `refused 9 at 18 in row`
abbrev pub refused_line : ℕ → ℕ → Layer → List ℕ
refused_line number place layer =
    codes "refused " ++ (decimal number
    ++ (codes " at " ++ (decimal place
    ++ (codes " in " ++ (layer_name layer ++ line_end)))))

-- ---- a sheet that was searched

-- what a search has come to, as `found`
abbrev pub outcome_line : List ℕ → List ℕ
outcome_line name = name ++ line_end

-- as `opened 2`, where the name is `opened`
abbrev pub count_line : List ℕ → ℕ → List ℕ
count_line name n = name ++ (codes " " ++ (decimal n ++ line_end))

-- a voice's number and its value, as `1 3`
abbrev pub value_line : ℕ → ℕ → List ℕ
value_line voice value = decimal voice ++ (codes " " ++ (decimal value ++ line_end))

-- a line for each value, of the voice i and those that follow it
abbrev pub value_lines : ℕ → List ℕ → List ℕ
value_lines i [] = []
value_lines i (v ∷ values) = value_line i v ++ value_lines (suc i) values

-- what the search has come to, how many nodes it opened and exhausted, and the found values
abbrev pub outcome_text : List ℕ → ℕ → ℕ → List ℕ → List ℕ
outcome_text name opened exhausted values =
    outcome_line name ++ (count_line (codes "opened") opened
    ++ (count_line (codes "exhausted") exhausted ++ value_lines 0 values))

-- ---- a table

-- where its search has come to this
abbrev pub searched_text : Outcome → TableData → List ℕ
searched_text o t = outcome_text (outcome_name o) t.opened t.exhausted (result t.status)

-- after a Load with this answer
abbrev pub report_text : LoadAnswer → TableData → List ℕ
report_text sheet_loaded t = searched_text (outcome_of t.status) t
report_text (sheet_fault number place layer) t = refused_line number place layer

-- of a sheet that was refused for this fault, or for which the table's search has come to this
abbrev pub sheet_text : Result Outcome SheetRefusal → TableData → List ℕ
sheet_text (Ok outcome) t = searched_text outcome t
sheet_text (Err fault) t =
    refused_line (cause_number fault.cause) fault.place (cause_layer fault.cause)
