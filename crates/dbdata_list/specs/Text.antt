-- Lines of the listings (docs/TEXTS.md, "Listings").
use Rattle.std.specs.Prelude.{ℕ, ℤ, ◌+◌, List, [], ◌∷◌, ◌++◌, Option, Some, None, codes, decimal}
use Rattle.record_core.specs.declared.values.Value.{Value}
use Rattle.line_text.specs.Text.{cause_text, newline, value_text}
use Rattle.page_walk.specs.Cells.{Outcome, Read, Unread}
use Rattle.record_core.specs.declared.values.Value.TheVariants.{Whole}

-- `PAGE `, which begins the lines of a page
abbrev pub page_text : ℕ → List ℕ
page_text page = decimal page ++ codes " "

-- `PAGE CELL `, which begins the lines of a cell, behind the beginning of its page's lines
unfoldable pub cell_text : List ℕ → ℕ → List ℕ
cell_text start cell = start ++ (decimal cell ++ codes " ")

-- `PAGE CELL FIELD `, which begins the line of a field, behind the place `PAGE CELL ` of its cell
unfoldable pub field_text : List ℕ → List ℕ → List ℕ
field_text place field = place ++ (field ++ codes " ")

-- the line of a value, behind its beginning
unfoldable pub value_line : List ℕ → Value → List ℕ
value_line start value = start ++ (value_text value ++ newline)

-- the line of a value that is a word behind the name of its type
unfoldable pub word_line : List ℕ → List ℕ → List ℕ → List ℕ
word_line start name word = start ++ ((name ++ word) ++ newline)

-- the line of a field
unfoldable pub field_line : List ℕ → List ℕ → Value → List ℕ
field_line place field value = value_line (field_text place field) value

-- the lines of the fields from field i on
abbrev pub fields_text : List ℕ → ℕ → List Value → List ℕ
fields_text place i [] = []
fields_text place i (value ∷ values) = field_line place (decimal i) value ++ fields_text place (i + 1) values

-- the line of the rowid, as field -1, where there is one
abbrev pub rowid_text : List ℕ → Option ℤ → List ℕ
rowid_text place None = []
rowid_text place (Some rowid) = field_line place (codes "-1") (Whole rowid)

-- the lines of a row: its rowid, then its fields
abbrev pub row_text : List ℕ → ℕ → Option ℤ → List Value → List ℕ
row_text start cell rowid values =
    rowid_text (cell_text start cell) rowid ++ fields_text (cell_text start cell) 0 values

-- the line of a cell that is not read
unfoldable pub unread_line : List ℕ → ℕ → List ℕ → List ℕ
unread_line start cell cause = cell_text start cell ++ (codes "unread " ++ (cause ++ newline))

-- `PAGE CHILD`, the line of a page number that a page names
unfoldable pub pointer_line : ℕ → ℕ → List ℕ
pointer_line page child = decimal page ++ (codes " " ++ (decimal child ++ newline))

-- the lines of the page numbers that a page names
abbrev pub pointer_lines : ℕ → List ℕ → List ℕ
pointer_lines page [] = []
pointer_lines page (child ∷ children) = pointer_line page child ++ pointer_lines page children

-- the lines of a cell
abbrev pub outcome_text : List ℕ → Outcome → List ℕ
outcome_text start (Read row) = row_text start row.cell row.rowid row.fields
outcome_text start (Unread u) = unread_line start u.cell (cause_text u.cause)

-- the lines of cells, in order
abbrev pub outcomes_text : List ℕ → List Outcome → List ℕ
outcomes_text start [] = []
outcomes_text start (o ∷ os) = outcome_text start o ++ outcomes_text start os
