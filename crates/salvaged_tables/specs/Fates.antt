-- What becomes of a table row of the schema (docs/FORMAT.md, "Tables that are not built" and "Keys and
-- clashes"; docs/TEXTS.md, "The report").
use Rattle.std.specs.Prelude.{◌≡◌, ℕ, ℤ, Bool, true, false, if◌then◌else◌, Option, Some, None, unwrap_or, List, [], ◌∷◌, length, map, slice_get}
use Rattle.std.specs.List.{flat_map}
use Rattle.page_walk.specs.declared.causes.CellCause.{CellCause}
use Rattle.page_walk.specs.declared.causes.CellCause.TheVariants as causes
use Rattle.page_walk.specs.Cells.{Outcome, Read, Row, Unread, UnreadCell, row_of}
use Rattle.raw_schema.specs.declared.rows.SchemaRow.{SchemaRow}
use Rattle.raw_schema.specs.Schema.{cells_in, noted}
use Rattle.report_text.specs.declared.ReportLine.{ReportLine}
use Rattle.schema_texts.specs.declared.readings.Reading.{Reading}
use Rattle.schema_texts.specs.declared.readings.TableReading.{TableReading}
use Rattle.table_parts.specs.declared.parts.TablePart.{TablePart}
use Rattle.table_parts.specs.declared.parts.TablePart.TheVariants as parts
use Rattle.table_parts.specs.Laws.{lost_cells}
use Rattle.table_parts.specs.Lines.{table_lines}
use Rattle.table_parts.specs.Parts.{IsPart}
use Rattle.table_shape.specs.Seen.{shape_seen}
use Rattle.table_shape.specs.Shape.{Shape}
use Rattle.tree_uses.specs.Trees.{Tree}
use Rattle.salvaged_tables.specs.declared.places.ScriptText.{ScriptText}

-- the row, what its text says, the pages of its tree, what becomes of the cells on these, and what is built
pub record TableFate : Type 0 where
  pub row : SchemaRow
  pub reading : Reading
  pub pages : List ℕ
  pub turns : List (ℕ × List Outcome)
  pub part : TablePart

-- the fate of the row of this reading, with this tree and these turns
pub record IsFate (rows : List SchemaRow) (r : TableReading) (t : Tree) (turns : List (ℕ × List Outcome))
    (f : TableFate) : Type 0 where
  pub row_is : slice_get rows r.row ≡ Some f.row
  pub reading_is : f.reading ≡ r.reading
  pub pages_are : f.pages ≡ t.pages
  pub turns_are : f.turns ≡ turns
  pub part_is : IsPart r.reading (cells_in turns) f.part

-- the fates of the table rows: one for each reading, each tree and each list of turns
abbrev pub AreFates : List SchemaRow → List TableReading → List Tree → List (List (ℕ × List Outcome))
    → List TableFate → Type 0
AreFates rows [] [] [] [] = Unit {0}
AreFates rows (r ∷ rs) (t ∷ trees) (ts ∷ turns) (f ∷ fates) =
    IsFate rows r t ts f × AreFates rows rs trees turns fates
AreFates rows rs trees turns fates = ⊥

-- ---- the table that is stored

-- a table as it is stored: its name, its text, its shape, and its rows with their places
pub record StoredTable : Type 0 where
  pub name : List ℕ
  pub text : List ℕ
  pub shape : Shape
  pub rows : List Row

-- a row as it is stored: a table WITHOUT ROWID has no rowids
abbrev pub stored_row : Bool → Row → Row
stored_row without_rowid r = record {
  page = r.page;
  cell = r.cell;
  rowid = if without_rowid then None else r.rowid;
  chain = r.chain;
  fields = r.fields;
}

-- the table of a row with these rows
abbrev pub table_with : SchemaRow → Shape → List Row → StoredTable
table_with row shape rows = record {
  name = row.name;
  text = unwrap_or row.sql [];
  shape = shape;
  rows = map (stored_row shape.without_rowid) rows;
}

-- the table of a row, where it is built
abbrev pub built_table : SchemaRow → TablePart → List StoredTable
built_table row (parts.Built shape rows left) =
    table_with row (shape_seen shape) (map row_of rows.items) ∷ []
built_table row (parts.Unread cause cells) = []

abbrev pub table_of : TableFate → List StoredTable
table_of f = built_table f.row f.part

-- ---- what no table has

-- the root page of a tree, its first
abbrev pub root_of : List ℕ → ℕ
root_of pages = unwrap_or (slice_get pages 0) 0

-- the cells that are no rows, each with the root of the tree
abbrev pub lost_of : TableFate → List (ℕ × Row)
lost_of f = map (λ (r : Row). (root_of f.pages, r)) (lost_cells f.part)

-- a cell with a payload that is not read: its page and number, the root of its tree, its rowid if it has one,
-- the overflow pages that it took, and why
pub record Failed : Type 0 where
  pub page : ℕ
  pub cell : ℕ
  pub root : ℕ
  pub rowid : Option ℤ
  pub chain : List ℕ
  pub cause : CellCause

-- whether a cell is not read for its overflow chain or its record
abbrev pub has_failed : CellCause → Bool
has_failed causes.Pointer = false
has_failed causes.Length = false
has_failed causes.Cut = false
has_failed causes.Overlap = false
has_failed causes.Chain = true
has_failed causes.BadRecord = true

abbrev pub failed_cell : ℕ → ℕ → UnreadCell → List Failed
failed_cell root page u = if has_failed u.cause then record {
  page = page;
  cell = u.cell;
  root = root;
  rowid = u.rowid;
  chain = u.chain;
  cause = u.cause;
} ∷ [] else []

abbrev pub failed_one : ℕ → ℕ → Outcome → List Failed
failed_one root page (Read row) = []
failed_one root page (Unread u) = failed_cell root page u

-- those of a page, in cell order
abbrev pub failed_on : ℕ → ℕ × List Outcome → List Failed
failed_on root t = flat_map (failed_one root t.0) t.1

-- those of a tree, page after page
abbrev pub failed_of : TableFate → List Failed
failed_of f = flat_map (failed_on (root_of f.pages)) f.turns

-- ---- what is told

-- a text of the script, where there is one
abbrev pub text_of : Option (List ℕ) → Option (List ℕ) → List ScriptText
text_of table None = []
text_of table (Some sql) = record { table = table; text = sql } ∷ []

-- the text of a table that is not built, under its name
abbrev pub part_text : SchemaRow → TablePart → List ScriptText
part_text row (parts.Built shape rows left) = []
part_text row (parts.Unread cause cells) = text_of (Some row.name) row.sql

abbrev pub fate_text : TableFate → List ScriptText
fate_text f = part_text f.row f.part

-- the lines of a table in the report
abbrev pub fate_lines : TableFate → List ReportLine
fate_lines f = table_lines f.row.name (length f.pages) f.part (flat_map noted f.turns)
