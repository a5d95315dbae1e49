-- The table of lost cells, and where its rows come from (docs/FORMAT.md, "The table of lost cells").
use Rattle.std.specs.Prelude.{ℕ, List}
use Rattle.page_walk.specs.Cells.{Row}
use Rattle.salvaged_tables.specs.Fates.{StoredTable}
use Rattle.lost_found.specs.Names.{lost_name}
use Rattle.lost_found.specs.Rows.{lost_rows, most_fields}
use Rattle.lost_found.specs.Texts.{lost_shape, lost_text}

-- the table of cells, each with the root of its tree, beside these names
abbrev pub lost_of : List ℕ → List (List ℕ) → List (ℕ × Row) → StoredTable
lost_of base names cells = record {
  name = lost_name base names;
  text = lost_text (lost_name base names) (most_fields cells);
  shape = lost_shape (lost_name base names) (most_fields cells);
  rows = lost_rows 1 cells;
}
