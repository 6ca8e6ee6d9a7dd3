-- The number, the layer and the message of each reason to refuse a sheet.
use Rattle.std.specs.Prelude.{ℕ, cond, List, ◌++◌, codes, decimal, nat_le}
use Rattle.table.specs.Refusals.{refusal_number, refusal_message}
use Rattle.sheets.specs.declared.refusal.RecordRefusal.{RecordRefusal}
use Rattle.sheets.specs.declared.refusal.RecordRefusal.TheVariants.{NoRecord, LateVoice, Trailing, CutVoice, ByTable}
use Rattle.sheets.specs.declared.refusal.SheetRefusal.{SheetRefusal}
use Rattle.sheets.specs.declared.refusal.Layer.{Layer}
use Rattle.sheets.specs.declared.refusal.Layer.TheVariants.{Sheet, Row, Table}

-- the name of a layer
abbrev pub layer_name : Layer → List ℕ
layer_name Sheet = codes "sheet"
layer_name Row = codes "row"
layer_name Table = codes "table"

-- the layer of a refusal of Declare or Post, by its number: 10 and above are the table's
abbrev pub layer_of : ℕ → Layer
layer_of n = cond (nat_le 10 n) Table Row

-- the number of a cause: the sheet's own, or that of the refusal of Declare or Post; with the layer
-- it says what is wrong
abbrev pub cause_number : RecordRefusal → ℕ
cause_number NoRecord = 1
cause_number LateVoice = 3
cause_number Trailing = 4
cause_number CutVoice = 6
cause_number (ByTable refusal) = refusal_number refusal

abbrev pub cause_layer : RecordRefusal → Layer
cause_layer NoRecord = Sheet
cause_layer LateVoice = Sheet
cause_layer Trailing = Sheet
cause_layer CutVoice = Sheet
cause_layer (ByTable refusal) = layer_of (refusal_number refusal)

-- how far from its record's first byte the place of a fault is: of bytes that follow hex 5A it is
-- the first of them
abbrev pub cause_offset : RecordRefusal → ℕ
cause_offset NoRecord = 0
cause_offset LateVoice = 0
cause_offset Trailing = 1
cause_offset CutVoice = 0
cause_offset (ByTable refusal) = 0

-- what is wrong, in words
abbrev pub cause_message : RecordRefusal → List ℕ
cause_message NoRecord = codes "the bytes end where a record should begin"
cause_message LateVoice = codes "a voice follows a row"
cause_message Trailing = codes "bytes follow the sheet's end"
cause_message CutVoice = codes "the bytes end inside a voice"
cause_message (ByTable refusal) = refusal_message refusal

-- what is wrong and where, as `a voice follows a row, at byte 15`
abbrev pub sheet_refusal_message : SheetRefusal → List ℕ
sheet_refusal_message refusal =
    cause_message refusal.cause ++ (codes ", at byte " ++ decimal refusal.place)
