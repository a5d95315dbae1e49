-- Rows on clear paths come back, whatever else a file holds (docs/FORMAT.md, "Clear paths").
use Rattle.std.specs.Prelude.{◌≡◌, ◌⊎◌, ℕ, true, Option, Some, List}
use Rattle.std.specs.List.{AllByRecursion, Contains, flat_map}
use Rattle.page_access.specs.Pages.{File}
use Rattle.page_lists.specs.Lists.{count}
use Rattle.cell_reader.specs.declared.shapes.Kind.{Kind}
use Rattle.orphan_trees.specs.Orphans.{Orphan}
use Rattle.page_walk.specs.Cells.{Outcome, Row}
use Rattle.page_walk.specs.declared.outcomes.Place.{Place}
use Rattle.raw_schema.specs.Schema.{cells_in}
use Rattle.report_text.specs.declared.ReportLine.{ReportLine}
use Rattle.schema_texts.specs.Readings.{kind_of}
use Rattle.table_fill.specs.declared.fates.Fate.TheVariants.{Clash}
use Rattle.table_fill.specs.Fates.{held, left_row}
use Rattle.table_shape.specs.Keys.{fits, keys_of}
use Rattle.use_order.specs.Order.{kind_read}
use Rattle.salvaged_tables.specs.Fates.{StoredTable, TableFate, fate_lines, table_of}
use Rattle.salvage_laws.specs.Stored.{AreStored}
use Rattle.salvage_laws.specs.Told.{AreAmong, IsLost}
use Rattle.clear_paths.specs.Clear.{AreTouched, IsClearPath, all_pages, counted, numbers_with, roots_of, touched}

-- ---- the pages that are touched

-- the list of the pages that are touched has them all, each once, and nothing else
abbrev pub TouchedAreListed : Type 0
TouchedAreListed = (f : File) (roots : List ℕ) → AreTouched f roots (touched f roots)

-- how often a number is held does not depend on the order of this list
abbrev pub CountsAreSame : Type 0
CountsAreSame = (f : File) (roots pages : List ℕ) → AreTouched f roots pages
    → (q : ℕ) → count q (numbers_with f roots pages) ≡ count q (counted f roots)

-- ---- the cells that are read

-- each row on a clear path from the root of this table is a readable cell of its tree
abbrev pub ClearAreRead : File → List ℕ → TableFate → Type 0
ClearAreRead f roots t = (kind : Kind) (row : Row) → kind_read t.reading ≡ Some kind
    → IsClearPath f roots t.row.root kind row → Contains (cells_in t.turns) row

-- ---- the rows that come back

-- A row is none of the table, and the report has its `clash` line: with the place of a row of the table that stands
-- before it in cell order, and the least key by which it clashes with such a row.
pub record IsToldClash (all : List ReportLine) (t : StoredTable) (cells : List Row) (row : Row) : Type 0 where
  pub earlier : Place
  pub key : ℕ
  pub lost : IsLost all t.name (keys_of t.shape) cells t.rows (left_row row (Clash earlier key))

-- each row that fits this stored table, on a clear path from this root, is a row of the table, or the report has its
-- `clash` line
abbrev pub ClearAreBack : File → List ℕ → List ReportLine → TableFate → StoredTable → Type 0
ClearAreBack f roots all fate t = (row : Row) → IsClearPath f roots fate.row.root (kind_of t.shape) row
    → fits (keys_of t.shape) (held row) ≡ true → Contains t.rows row ⊎ IsToldClash all t (cells_in fate.turns) row

-- the same of the table of a row of the schema, where it is built
abbrev pub ClearRowsAreBack : File → List ℕ → List ReportLine → TableFate → Type 0
ClearRowsAreBack f roots all fate = AllByRecursion (ClearAreBack f roots all fate) (table_of fate)

-- ---- the laws

-- of each file from which this is stored, all of whose pages are unused at first, whatever else it holds
abbrev pub ClearCellsAreRead : Type 0
ClearCellsAreRead = (f : File) (trunk : Option ℕ) (fates : List TableFate) (orphans : List Orphan)
    (cells : List (List (ℕ × List Outcome))) (s : AreStored f (all_pages f) trunk fates orphans cells)
    → AllByRecursion (ClearAreRead f (roots_of s.rows)) fates

-- and where the lines of its tables are told
abbrev pub ClearRowsComeBack : Type 0
ClearRowsComeBack = (f : File) (trunk : Option ℕ) (fates : List TableFate) (orphans : List Orphan)
    (cells : List (List (ℕ × List Outcome))) (s : AreStored f (all_pages f) trunk fates orphans cells)
    (all : List ReportLine) → AreAmong (flat_map fate_lines fates) all
    → AllByRecursion (ClearRowsAreBack f (roots_of s.rows) all) fates
