-- The rows of the table of lost cells (docs/FORMAT.md, "The table of lost cells").
use Rattle.std.specs.Prelude.{ℕ, ◌+◌, pos, Some, max, List, [], ◌∷◌, length}
use Rattle.page_walk.specs.Cells.{Row}
use Rattle.record_core.specs.declared.values.Value.{Value}
use Rattle.record_core.specs.declared.values.Value.TheVariants.{Whole}
use Rattle.table_shape.specs.Keys.{number_of}

-- a lost cell is the root of its tree, and what was read of it

-- the greatest number of fields of a cell
abbrev pub most_fields : List (ℕ × Row) → ℕ
most_fields [] = 0
most_fields (c ∷ cells) = max (length c.1.fields) (most_fields cells)

-- the fields of its row: the root, the page, how many fields the cell has, its rowid or NULL, and these fields
abbrev pub lost_fields : ℕ → Row → List Value
lost_fields root r =
    Whole (pos root) ∷ (Whole (pos r.page) ∷ (Whole (pos (length r.fields)) ∷ (number_of r.rowid ∷ r.fields)))

-- its row, with this rowid; it comes from where the cell stands
abbrev pub lost_row : ℕ → ℕ × Row → Row
lost_row k c = record {
  page = c.1.page;
  cell = c.1.cell;
  rowid = Some (pos k);
  chain = c.1.chain;
  fields = lost_fields c.0 c.1;
}

-- the rows of cells, with the rowids from k on
abbrev pub lost_rows : ℕ → List (ℕ × Row) → List Row
lost_rows k [] = []
lost_rows k (c ∷ cells) = lost_row k c ∷ lost_rows (k + 1) cells
