-- What is prepared before a file is written.
use Rattle.std.specs.Prelude.{◌≡◌, ◌≤◌, ◌<◌, ℕ, ◌+◌, ◌-◌, ◌^◌, Option, Some, None, List, [], length, map, slice_index_or}
use Rattle.std.specs.List.{AllZip}
use Rattle.table_shape.specs.declared.rows.OutRow.{OutRow}
use Rattle.table_shape.specs.declared.rows.OutTable.{OutTable}
use Rattle.tree_writer.specs.Entry.{Entry, entry_at}
use Rattle.tree_writer.specs.Trees.{IsSchemaPlan, IsTreePlan}
use Rattle.db_builder.specs.declared.databases.OutDb.{OutDb}
use Rattle.db_builder.specs.declared.plans.IndexOrder.{IndexOrder}
use Rattle.db_builder.specs.declared.plans.PlannedTree.{PlannedTree}
use Rattle.db_builder.specs.declared.plans.Prepared.{Prepared}
use Rattle.db_builder.specs.Layout.{Placed, last_page, numbered, pages_of_trees, placed, schema_entries, schema_record, start_of}
use Rattle.db_builder.specs.Trees.{trees_of}
use Rattle.db_builder.specs.Views.{AreWritable, HaveIndexRecords, NamesRows, index_entries, row_entries}

-- the records of the schema, and its entries
abbrev pub records_of : List PlannedTree → List (List ℕ)
records_of trees = map (λ (t : PlannedTree). t.record) trees

abbrev pub record_in : List PlannedTree → ℕ → List ℕ
record_in trees i = slice_index_or (records_of trees) i []

abbrev pub schema_seen : List PlannedTree → List Entry
schema_seen trees = numbered 1 (records_of trees)

-- the rows of table i
abbrev pub rows_at : List OutTable → ℕ → List OutRow
rows_at tables i = slice_index_or (map (λ (t : OutTable). t.rows.items) tables) i []

-- the entries of a tree over the rows of its table
abbrev pub planned_entries : List OutRow → Option IndexOrder → List Entry
planned_entries rows None = row_entries rows
planned_entries rows (Some index) = index_entries index.parts.items rows index.order.items

-- rows that can be entries, and an order of rows that can be
pub record AreReadable (rows : List OutRow) : Type 0 where
  pub few : length rows < 2 ^ 32
  pub writable : AreWritable rows

pub record IsReadable (rows : List OutRow) (index : IndexOrder) : Type 0 where
  pub few : length index.order.items < 2 ^ 32
  pub there : NamesRows index.order.items (length rows)
  pub writable : HaveIndexRecords index.parts.items rows

abbrev pub CanRead : List OutRow → Option IndexOrder → Type 0
CanRead rows None = AreReadable rows
CanRead rows (Some index) = IsReadable rows index

-- no payload is longer than this
abbrev pub HaveAtMost : ℕ → List Entry → Type 0
HaveAtMost longest es = (i : ℕ) → i < length es → length (entry_at es i).bytes ≤ longest

-- a tree is planned: its entries are those over the rows of its table, and there are numbers for its pages
pub record IsPlanned (size : ℕ) (tables : List OutTable) (longest : ℕ) (p : Placed) (t : PlannedTree) : Type 0 where
  pub there : t.table < length tables
  pub can : CanRead (rows_at tables t.table) t.index
  pub entries : planned_entries (rows_at tables t.table) t.index ≡ p.tree.entries
  pub short : HaveAtMost longest p.tree.entries
  pub plan : IsTreePlan size p.tree.kind p.tree.entries t.plan
  pub start : t.start ≡ p.start
  pub least : 1 ≤ p.start
  pub most : p.start + t.plan.count < 2 ^ 32 - 1
  pub row : t.record ≡ schema_record size p

-- trees are planned, each from some page on
abbrev pub ArePlanned : ℕ → List OutTable → ℕ → List PlannedTree → Type 0
ArePlanned size tables longest trees = (ps : List Placed) × AllZip (IsPlanned size tables longest) ps trees

-- a database is prepared for pages of this size
pub record IsPrepared (size : ℕ) (db : OutDb) (p : Prepared) : Type 0 where
  pub size_is : p.page_size ≡ size
  pub least : 512 ≤ size
  pub most : size ≤ 65536
  pub trees : AllZip (IsPlanned size db.tables.items (length p.scratch.items))
      (placed size 0 (trees_of db.tables.items)) p.trees.items
  pub few : length p.trees.items < 2 ^ 32
  pub schema : IsSchemaPlan size (schema_entries size (trees_of db.tables.items)) p.schema
  pub short : HaveAtMost (length p.scratch.items) (schema_entries size (trees_of db.tables.items))
  pub start : p.start ≡ start_of size (pages_of_trees size (trees_of db.tables.items))
  pub start_least : 1 ≤ p.start
  pub start_most : p.start + p.schema.count < 2 ^ 32 - 1
  pub pages : p.pages ≡ last_page size (trees_of db.tables.items)
  pub page : length p.page.items ≡ size
