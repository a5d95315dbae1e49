-- The trees of a written file but the schema's own (docs/FORMAT.md, "Layout of a written file").
use Rattle.std.specs.Prelude.{ℕ, None, Bool, if◌then◌else◌, codes, List, ◌∷◌, map}
use Rattle.std.specs.List.{flat_map}
use Rattle.cell_reader.specs.declared.shapes.Kind.{Kind}
use Rattle.cell_reader.specs.declared.shapes.Kind.TheVariants.{Table, Index}
use Rattle.record_core.specs.declared.values.Value.{Value}
use Rattle.record_core.specs.declared.values.Value.TheVariants.{Null, Text}
use Rattle.record_core.specs.Shortest.{record_bytes}
use Rattle.table_shape.specs.declared.rows.OutTable.{OutTable}
use Rattle.table_shape.specs.Entries.{entries_of}
use Rattle.table_shape.specs.Keys.{KeyParts, Keys, StoredRow, keys_of}
use Rattle.table_shape.specs.Names.{index_name}
use Rattle.table_shape.specs.Seen.{row_seen, shape_seen}
use Rattle.tree_writer.specs.Entry.{Entry}

-- what the schema says of a tree: its type, its name, its table, and its text, if it has one
pub record Label : Type 0 where
  pub type_name : List ℕ
  pub name : List ℕ
  pub table : List ℕ
  pub sql : Value

-- a tree: what the schema says of it, its kind, and its entries
pub record Tree : Type 0 where
  pub label : Label
  pub kind : Kind
  pub entries : List Entry

-- the entry of a row, and that of an index record
abbrev pub row_entry : StoredRow → Entry
row_entry row = record { rowid = row.rowid; bytes = record_bytes row.fields }

abbrev pub index_entry : List Value → Entry
index_entry values = record { rowid = None; bytes = record_bytes values }

-- the rows of a table, and its keys
abbrev pub rows_in : OutTable → List StoredRow
rows_in t = map row_seen t.rows.items

abbrev pub keys_in : OutTable → Keys
keys_in t = keys_of (shape_seen t.shape)

-- a table WITHOUT ROWID is an index tree
abbrev pub kind_of : Bool → Kind
kind_of without_rowid = if without_rowid then Index else Table

abbrev pub table_label : OutTable → Label
table_label t = record { type_name = codes "table"; name = t.name; table = t.name; sql = Text t.text }

abbrev pub key_label : OutTable → ℕ → Label
key_label t number =
    record { type_name = codes "index"; name = index_name t.name number; table = t.name; sql = Null }

-- the tree of a table's rows
abbrev pub table_tree : OutTable → Tree
table_tree t = record {
  label = table_label t;
  kind = kind_of t.shape.without_rowid;
  entries = map row_entry (rows_in t);
}

-- the tree of an automatic index
abbrev pub key_tree : OutTable → KeyParts → Tree
key_tree t key = record {
  label = key_label t key.number;
  kind = Index;
  entries = map index_entry (entries_of (keys_in t) key (rows_in t));
}

-- the trees of a table: its rows, and then its keys by number
abbrev pub table_trees : OutTable → List Tree
table_trees t = table_tree t ∷ map (key_tree t) (keys_in t).keys

-- the trees of all tables, in order
abbrev pub trees_of : List OutTable → List Tree
trees_of tables = flat_map table_trees tables
