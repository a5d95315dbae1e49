-- The cells that are written of a file: the rows of its tables, and the cells that no table has (docs/FORMAT.md,
-- "Readable cells" and "The table of lost cells"; docs/ARCHITECTURE.md, "Order of use").
use Rattle.std.specs.Prelude.{ℕ, Option, List, ◌++◌, map}
use Rattle.std.specs.List.{flat_map}
use Rattle.page_access.specs.Pages.{File}
use Rattle.page_walk.specs.Cells.{Outcome, Row}
use Rattle.page_walk.specs.Evidence.{AreOnce}
use Rattle.raw_schema.specs.Schema.{bad_rows, schema_pages}
use Rattle.raw_schema.specs.declared.rows.SchemaRow.{SchemaRow}
use Rattle.schema_texts.specs.declared.readings.TableReading.{TableReading}
use Rattle.tree_uses.specs.Trees.{Tree, chains_in}
use Rattle.use_order.specs.Laws.{schema_chains}
use Rattle.use_order.specs.Order.{AreInOrder, behind_uses}
use Rattle.salvaged_tables.specs.Fates.{AreFates, StoredTable, TableFate, lost_of, table_of}
use Rattle.salvaged_tables.specs.Laws.{all_cells}
use Rattle.orphan_trees.specs.Orphans.{Orphan, pages_in}
use Rattle.orphan_uses.specs.Laws.{orphan_rows}
use Rattle.orphan_uses.specs.Order.{AreOrphans}
use Rattle.orphan_cells.specs.Orphaned.{orphan_lost}

-- ---- the cells

-- the rows of stored tables, table after table
abbrev pub stored_rows : List StoredTable → List Row
stored_rows stored = flat_map (λ (t : StoredTable). t.rows) stored

-- a cell of the schema's tree that is no row of it: the root is page 1
abbrev pub bad_lost : List Row → List (ℕ × Row)
bad_lost bad = map (λ (r : Row). (1, r)) bad

-- the cells that no table has, each with the root of its tree: those of the schema's tree, those of the tables'
-- trees in schema order, and those of the orphan trees
abbrev pub lost_cells : List Row → List TableFate → List Orphan → List (List (ℕ × List Outcome)) → List (ℕ × Row)
lost_cells bad fates orphans cells = bad_lost bad ++ (flat_map lost_of fates ++ orphan_lost orphans cells)

-- all cells that are written, where these pages are unused at first: the rows of the tables that are built, and
-- the cells that no table has
abbrev pub kept_cells : File → List ℕ → List TableFate → List Orphan → List (List (ℕ × List Outcome)) → List Row
kept_cells f unused fates orphans cells = stored_rows (flat_map table_of fates)
    ++ map (λ (l : ℕ × Row). l.1) (lost_cells (bad_rows f unused) fates orphans cells)

-- the readable cells that are no rows of the schema: those of its tree, of the tables' trees and of the orphan trees
abbrev pub readable_cells : File → List ℕ → List TableFate → List (List (ℕ × List Outcome)) → List Row
readable_cells f unused fates cells = bad_rows f unused ++ (all_cells fates ++ orphan_rows cells)

-- ---- the pages

-- the pages of the trees that are read: the schema's, those of the tables, and the orphan trees
abbrev pub tree_pages : File → List ℕ → List TableFate → List Orphan → List ℕ
tree_pages f unused fates orphans =
    schema_pages f unused ++ (flat_map (λ (t : TableFate). t.pages) fates ++ pages_in orphans)

-- the pages of the overflow chains that the cells of these trees take
abbrev pub chain_pages : File → List ℕ → List TableFate → List (List (ℕ × List Outcome)) → List ℕ
chain_pages f unused fates cells =
    schema_chains f unused ++ (flat_map (λ (t : TableFate). chains_in t.turns) fates ++ flat_map chains_in cells)

-- ---- what a salvage is

-- What is written of a file: the pages are used in order, where `unused` are unused at first, each once; the
-- fates are those of the table rows; and the orphan trees and their cells are those of the pages that are left.
pub record AreStored (f : File) (unused : List ℕ) (trunk : Option ℕ) (fates : List TableFate) (orphans : List Orphan)
    (cells : List (List (ℕ × List Outcome))) : Type 0 where
  pub rows : List SchemaRow
  pub readings : List TableReading
  pub tables : List Tree
  pub indexes : List Tree
  pub turns : List (List (ℕ × List Outcome))
  pub once : AreOnce f.pages unused
  pub order : AreInOrder f unused rows readings tables indexes turns
  pub fates_are : AreFates rows readings tables turns fates
  pub orphans_are : AreOrphans f (behind_uses f unused tables indexes turns) trunk orphans cells
