-- What holds of all parts (docs/FORMAT.md, "Keys and clashes").
use Rattle.std.specs.Prelude.{List, [], ◌++◌, map}
use Rattle.std.specs.List.Sorted.{IsPermutation}
use Rattle.page_walk.specs.Cells.{Row, row_of}
use Rattle.table_fill.specs.Chosen.{left_seen}
use Rattle.table_fill.specs.Fates.{Left}
use Rattle.schema_texts.specs.declared.readings.Reading.{Reading}
use Rattle.table_parts.specs.declared.parts.TablePart.{TablePart}
use Rattle.table_parts.specs.declared.parts.TablePart.TheVariants.{Built, Unread}
use Rattle.table_parts.specs.Parts.{IsPart}

-- the rows of a table, and its cells that are lost: those that are no rows, or all where it is not built
abbrev pub built_rows : TablePart → List Row
built_rows (Built shape rows left) = map row_of rows.items
built_rows (Unread cause cells) = []

abbrev pub lost_cells : TablePart → List Row
lost_cells (Built shape rows left) = map (λ (l : Left). l.row) (map left_seen left.items)
lost_cells (Unread cause cells) = map row_of cells.items

-- each cell of a table is one of its rows or lost, once
abbrev pub EachCellOnce : Type 0
EachCellOnce = (reading : Reading) (cells : List Row) (part : TablePart) → IsPart reading cells part
    → IsPermutation cells (built_rows part ++ lost_cells part)
