-- What lines are made of (docs/TEXTS.md, "Listings").
use Rattle.std.specs.Prelude.{ℕ, List, [], ◌∷◌, ◌++◌, codes, decimal}
use Rattle.std.specs.Fmt.{signed_decimal}
use Rattle.hex.specs.Hex.{encode_lower}
use Rattle.record_core.specs.declared.values.Value.{Value}
use Rattle.record_core.specs.declared.values.Value.TheVariants.{Null, Whole, Real8, Text, Blob}
use Rattle.page_walk.specs.declared.causes.CellCause.{CellCause}
use Rattle.page_walk.specs.declared.causes.CellCause.TheVariants.{Pointer, Cut, Length, Overlap, Chain, BadRecord}

-- the text of a value
abbrev pub value_text : Value → List ℕ
value_text Null = codes "null"
value_text (Whole n) = codes "int:" ++ signed_decimal n
value_text (Real8 bytes) = codes "real:" ++ encode_lower bytes
value_text (Text bytes) = codes "text:" ++ encode_lower bytes
value_text (Blob bytes) = codes "blob:" ++ encode_lower bytes

-- the end of a line
abbrev pub newline : List ℕ
newline = 10 ∷ []

-- `PAGE CELL `, which begins each line of a cell
unfoldable pub place_text : ℕ → ℕ → List ℕ
place_text page cell = decimal page ++ (codes " " ++ (decimal cell ++ codes " "))

-- the word for the cause of a cell that is not read
abbrev pub cause_text : CellCause → List ℕ
cause_text Pointer = codes "pointer"
cause_text Cut = codes "cut"
cause_text Length = codes "length"
cause_text Overlap = codes "overlap"
cause_text Chain = codes "chain"
cause_text BadRecord = codes "record"
