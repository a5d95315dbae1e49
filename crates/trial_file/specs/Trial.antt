-- The database of a trial (docs/FORMAT.md, "The database of a trial").
use Rattle.std.specs.Prelude.{◌≡◌, ◌≤◌, ◌<◌, ◌+◌, ◌*◌, ◌^◌, ℕ, Some, false, List, [], ◌∷◌, codes}
use Rattle.key_order.specs.declared.Coll.TheVariants.{Binary}
use Rattle.table_shape.specs.declared.columns.Column.{Column}
use Rattle.table_shape.specs.declared.rows.OutTable.{OutTable}
use Rattle.table_shape.specs.Seen.{shape_seen}
use Rattle.table_shape.specs.Shape.{Shape}
use Rattle.db_builder.specs.declared.databases.OutDb.{OutDb}
use Rattle.db_builder.specs.Layout.{last_page}
use Rattle.db_builder.specs.Load.{load}
use Rattle.db_builder.specs.Trees.{rows_in, trees_of}
use Rattle.trial_file.specs.Rows.{rows_of}

-- the text of its table
abbrev pub table_text : List ℕ
table_text = codes "CREATE TABLE t(id INTEGER PRIMARY KEY, name TEXT UNIQUE, body BLOB)"

-- what the text says: three columns, of which the first stands for the rowid and the second has an index
abbrev pub column_named : List ℕ → Column
column_named name = record { name = name; coll = Some Binary; real = false }

abbrev pub table_shape : Shape
table_shape = record {
  name = codes "t";
  columns = column_named (codes "id") ∷ (column_named (codes "name") ∷ (column_named (codes "body") ∷ []));
  alias = Some 0;
  without_rowid = false;
  primary = [];
  keys = record { columns = 1 ∷ []; number = 1 } ∷ [];
  autoincrement = false;
}

-- the table with the rows 1 to n
pub record IsTrialTable (n : ℕ) (t : OutTable) : Type 0 where
  pub name : t.name ≡ codes "t"
  pub text : t.text ≡ table_text
  pub shape : shape_seen t.shape ≡ table_shape
  pub rows : rows_in t ≡ rows_of n

-- the database of this table alone
pub record IsTrial (n : ℕ) (db : OutDb) : Type 0 where
  pub table : OutTable
  pub tables : db.tables.items ≡ table ∷ []
  pub table_is : IsTrialTable n table
  pub user_version : db.user_version ≡ 0
  pub application_id : db.application_id ≡ 0

-- the most rows
abbrev pub most_rows : ℕ
most_rows = 100000

-- on pages of 512 bytes its file has at least two pages, and at most five for each row and seven more; it is not too large
pub record IsSmall (n : ℕ) (db : OutDb) : Type 0 where
  pub some : 2 ≤ last_page 512 (trees_of db.tables.items)
  pub pages : last_page 512 (trees_of db.tables.items) ≤ 5 * n + 7
  pub load : load db < 2 ^ 31
