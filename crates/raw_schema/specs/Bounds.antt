-- How much a schema can hold, whatever the bytes are (docs/ARCHITECTURE.md, "Bounds").
use Rattle.std.specs.Prelude.{◌≤◌, ℕ, ◌+◌, ◌*◌, ◌/◌, Option, Some, None, List, length, map}
use Rattle.std.specs.List.{AllByRecursion}
use Rattle.page_walk.specs.declared.outcomes.TakenCell.{TakenCell}
use Rattle.page_walk.specs.Bounds.{ArePages, IsSmallRow}
use Rattle.page_walk.specs.Cells.{Row, row_of}
use Rattle.raw_schema.specs.declared.rows.SchemaRow.{SchemaRow}

-- bytes of a statement
abbrev pub sql_len : Option (List ℕ) → ℕ
sql_len None = 0
sql_len (Some text) = length text

-- a row of the schema is not large
pub record IsSmallEntry (usable pages : ℕ) (row : SchemaRow) : Type 0 where
  pub texts : length row.name + length row.tbl + sql_len row.sql ≤ pages * usable
  pub page_least : 1 ≤ row.place.page
  pub page_most : row.place.page ≤ pages

-- a readable cell is not large, and stands on a page of the file
pub record IsSmallCell (usable pages : ℕ) (cell : Row) : Type 0 where
  pub row : IsSmallRow usable pages cell.page cell
  pub page_least : 1 ≤ cell.page
  pub page_most : cell.page ≤ pages

-- a schema on these pages has few and small rows
pub record IsSmallSchema (usable pages : ℕ) (rows : List SchemaRow) (bad : List TakenCell) (tree : List ℕ) : Type 0 where
  pub entries : AllByRecursion (IsSmallEntry usable pages) rows
  pub others : AllByRecursion (IsSmallCell usable pages) (map row_of bad)
  pub few : length rows + length bad ≤ length tree * (usable / 2)
  pub on_pages : ArePages pages tree
