-- The database that is written (docs/FORMAT.md, "A well-formed file" and "Layout of a written file").
use Rattle.std.specs.Prelude.{◌<◌, ◌^◌, IfSome, map}
use Rattle.std.specs.List.{AllByRecursion}
use Rattle.record_core.specs.Shortest.{AllStored, steps}
use Rattle.table_shape.specs.declared.rows.OutTable.{OutTable}
use Rattle.table_shape.specs.Keys.{StoredRow}
use Rattle.db_builder.specs.declared.databases.OutDb.{OutDb}
use Rattle.db_builder.specs.Trees.{rows_in}
use Rattle.well_formed.specs.Database.{Database, TableRows}

-- a table that is written, as a file spells it
abbrev pub table_of : OutTable → TableRows
table_of t = record { name = t.name; text = t.text; rows = rows_in t }

-- a database that is written, as a file spells it
abbrev pub database_of : OutDb → Database
database_of db = record {
  user_version = db.user_version;
  application_id = db.application_id;
  tables = map table_of db.tables.items;
}

-- the numbers of a row are those that their types in the program hold: a rowid and a whole number have 64
-- bits, and a floating point number eight bytes
pub record IsTypedRow (row : StoredRow) : Type 0 where
  pub rowid : IfSome row.rowid (λ z. steps z < 2 ^ 63)
  pub fields : AllStored row.fields

-- the same of all rows of a table
abbrev pub HasTypedRows : OutTable → Type 0
HasTypedRows t = AllByRecursion IsTypedRow (rows_in t)

-- the same of a database, whose two numbers have 32 bits
pub record IsTyped (db : OutDb) : Type 0 where
  pub user_version : db.user_version < 2 ^ 32
  pub application_id : db.application_id < 2 ^ 32
  pub rows : AllByRecursion HasTypedRows db.tables.items
