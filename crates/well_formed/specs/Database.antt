-- What a database file holds (docs/FORMAT.md, "A well-formed file").
use Rattle.std.specs.Prelude.{ℕ, List, []}
use Rattle.table_shape.specs.Keys.{StoredRow}

-- a table: its name, the text that made it, and its rows in the order of rowid or primary key
pub record TableRows : Type 0 where
  pub name : List ℕ
  pub text : List ℕ
  pub rows : List StoredRow

-- a database: two numbers of its header, and its tables in the order of the schema
pub record Database : Type 0 where
  pub user_version : ℕ
  pub application_id : ℕ
  pub tables : List TableRows

-- the database of a file without bytes
abbrev pub empty_database : Database
empty_database = record { user_version = 0; application_id = 0; tables = [] }
