-- What holds of all that is salvaged (docs/FORMAT.md, "Keys and clashes").
use Rattle.std.specs.Prelude.{ℕ, List, ◌++◌}
use Rattle.std.specs.List.{flat_map}
use Rattle.std.specs.List.Sorted.{IsPermutation}
use Rattle.page_walk.specs.Cells.{Outcome, Row}
use Rattle.raw_schema.specs.declared.rows.SchemaRow.{SchemaRow}
use Rattle.raw_schema.specs.Schema.{cells_in}
use Rattle.schema_texts.specs.declared.readings.TableReading.{TableReading}
use Rattle.table_parts.specs.Laws.{built_rows, lost_cells}
use Rattle.tree_uses.specs.Trees.{Tree}
use Rattle.salvaged_tables.specs.Fates.{AreFates, TableFate}

-- the readable cells of the tables' trees; the rows of the tables that are built; the cells that no table has
abbrev pub all_cells : List TableFate → List Row
all_cells fates = flat_map (λ (f : TableFate). cells_in f.turns) fates

abbrev pub all_rows : List TableFate → List Row
all_rows fates = flat_map (λ (f : TableFate). built_rows f.part) fates

abbrev pub all_lost : List TableFate → List Row
all_lost fates = flat_map (λ (f : TableFate). lost_cells f.part) fates

-- each readable cell is a row of a table or lost, once
abbrev pub EachCellOnce : Type 0
EachCellOnce = (rows : List SchemaRow) (rs : List TableReading) (trees : List Tree)
    (turns : List (List (ℕ × List Outcome))) (fates : List TableFate) → AreFates rows rs trees turns fates
    → IsPermutation (all_cells fates) (all_rows fates ++ all_lost fates)
