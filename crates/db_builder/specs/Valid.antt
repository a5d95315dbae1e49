-- What can be written (docs/FORMAT.md, "A well-formed file").
use Rattle.std.specs.Prelude.{◌≡◌, false, not, is_some, map}
use Rattle.std.specs.List.{AllByRecursion, IsDistinct}
use Rattle.create_reader.specs.Outcome.{IsTableText}
use Rattle.table_shape.specs.declared.rows.OutTable.{OutTable}
use Rattle.table_shape.specs.Keys.{AreRows, StoredRow}
use Rattle.table_shape.specs.Names.{is_reserved, same_name}
use Rattle.table_shape.specs.Seen.{shape_seen}
use Rattle.table_shape.specs.Shape.{has_real_key}
use Rattle.db_builder.specs.declared.databases.OutDb.{OutDb}
use Rattle.db_builder.specs.Trees.{keys_in, rows_in}

-- a table that can be written
pub record IsTable (t : OutTable) : Type 0 where
  -- its text says its shape, and that its name
  pub text : IsTableText t.text (shape_seen t.shape)
  pub name : t.shape.name ≡ t.name
  pub unreserved : is_reserved t.name ≡ false
  -- no key column has REAL affinity
  pub no_real : has_real_key (shape_seen t.shape) ≡ false
  -- a row has a rowid exactly where the table is not WITHOUT ROWID
  pub rowids : AllByRecursion (λ (row : StoredRow). is_some row.rowid ≡ not t.shape.without_rowid) (rows_in t)
  -- the rows fit, can be ordered, rise, and do not clash
  pub rows : AreRows (keys_in t) (rows_in t)

-- a database that can be written: its tables can, and no two have one name
pub record IsValid (db : OutDb) : Type 0 where
  pub tables : AllByRecursion IsTable db.tables.items
  pub names : IsDistinct same_name (map (λ (t : OutTable). t.name) db.tables.items)
