-- The rows that the cells of a tree hold (docs/FORMAT.md, "Records").
use Rattle.page_access.specs.Pages.{File}
use Rattle.table_shape.specs.Keys.{StoredRow}
use Rattle.tree_forms.specs.Node.{Held}
use Rattle.tree_walks.specs.Read.{fields_of}

-- the row that a cell holds
abbrev pub row_in : File → Held → StoredRow
row_in f h = record { rowid = h.rowid; fields = fields_of f h }
