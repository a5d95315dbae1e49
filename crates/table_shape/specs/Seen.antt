-- A table of the program as definitions see it.
use Rattle.std.specs.Prelude.{map}
use Rattle.table_shape.specs.declared.rows.OutRow.{OutRow}
use Rattle.table_shape.specs.declared.shapes.TableShape.{TableShape}
use Rattle.table_shape.specs.Shape.{Shape, key_seen}
use Rattle.table_shape.specs.Keys.{StoredRow}

-- a shape as plain lists
abbrev pub shape_seen : TableShape → Shape
shape_seen s = record {
  name = s.name;
  columns = s.columns.items;
  alias = s.alias;
  without_rowid = s.without_rowid;
  primary = s.primary.items;
  keys = map key_seen s.keys.items;
  autoincrement = s.autoincrement;
}

-- a row as plain lists
abbrev pub row_seen : OutRow → StoredRow
row_seen r = record { rowid = r.rowid; fields = r.fields.items }
