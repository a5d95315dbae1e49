-- What a plan asks of a database: its records can be written, and its trees and pages are not too many.
use Rattle.std.specs.Prelude.{◌≡◌, ◌<◌, ℕ, ◌^◌, true, false, None, length}
use Rattle.std.specs.List.{AllByRecursion}
use Rattle.record_core.specs.Shortest.{IsWritable}
use Rattle.table_shape.specs.declared.rows.OutTable.{OutTable}
use Rattle.table_shape.specs.Entries.{entry_parts}
use Rattle.table_shape.specs.Keys.{KeyParts}
use Rattle.tree_writer.specs.Entry.{AreEntries, HaveNoRowids, RowidsRise}
use Rattle.db_builder.specs.declared.databases.OutDb.{OutDb}
use Rattle.db_builder.specs.Layout.{page_total, row_values, schema_entries}
use Rattle.db_builder.specs.Prepared.{AreReadable}
use Rattle.db_builder.specs.Trees.{Label, key_label, key_tree, keys_in, table_label, table_tree, trees_of}
use Rattle.db_builder.specs.Views.{HaveIndexRecords}

-- the row of the schema can be written, whatever its root is
abbrev pub IsLabel : Label → Type 0
IsLabel l = (root : ℕ) → IsWritable (row_values l root)

-- the index of a key can be planned
pub record IsKeyPlannable (t : OutTable) (key : KeyParts) : Type 0 where
  pub records : HaveIndexRecords (entry_parts (keys_in t) key) t.rows.items
  pub entries : AreEntries (key_tree t key).entries
  pub label : IsLabel (key_label t key.number)

-- a table can be planned, and its keys
pub record IsPlannable (t : OutTable) : Type 0 where
  pub rows : AreReadable t.rows.items
  pub entries : AreEntries (table_tree t).entries
  pub rowids : t.shape.without_rowid ≡ false → RowidsRise None (table_tree t).entries
  pub no_rowids : t.shape.without_rowid ≡ true → HaveNoRowids (table_tree t).entries
  pub label : IsLabel (table_label t)
  pub keys : AllByRecursion (IsKeyPlannable t) (keys_in t).keys

-- a database can be prepared
pub record CanPrepare (size : ℕ) (db : OutDb) : Type 0 where
  pub tables : AllByRecursion IsPlannable db.tables.items
  pub few : length (trees_of db.tables.items) < 2 ^ 32
  pub schema : AreEntries (schema_entries size (trees_of db.tables.items))
  pub pages : page_total size (trees_of db.tables.items) < 2 ^ 31
