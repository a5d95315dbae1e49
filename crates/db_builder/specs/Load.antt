-- The load of a database, by which it is too large or not (docs/FORMAT.md, "Layout of a written file").
use Rattle.std.specs.Prelude.{ℕ, ◌+◌, ◌-◌, ◌^◌, ◌<◌, ◌≤◌, min, Option, Some, None, List, length, slice_index_or, sum_by}
use Rattle.std.specs.List.{AllByRecursion}
use Rattle.record_core.specs.declared.values.Value.{Value}
use Rattle.record_core.specs.Shortest.{record_bytes}
use Rattle.table_shape.specs.declared.keys.Spot.{Spot}
use Rattle.table_shape.specs.declared.keys.Spot.TheVariants.{Rowid, Field}
use Rattle.table_shape.specs.declared.rows.OutRow.{OutRow}
use Rattle.table_shape.specs.declared.rows.OutTable.{OutTable}
use Rattle.table_shape.specs.Entries.{entry_parts}
use Rattle.table_shape.specs.Keys.{KeyParts, StoredRow, values_of}
use Rattle.db_builder.specs.declared.databases.OutDb.{OutDb}
use Rattle.db_builder.specs.Layout.{row_values}
use Rattle.db_builder.specs.Views.{row_at}
use Rattle.db_builder.specs.Trees.{Label, key_label, keys_in, rows_in, table_label}

-- what a record adds to the load: its bytes and 32
abbrev pub record_load : List Value → ℕ
record_load values = length (record_bytes values) + 32

-- the row of the schema for a tree; its root counts as four bytes long
abbrev pub label_load : Label → ℕ
label_load l = record_load (row_values l (2 ^ 30))

-- a key has an entry for each row
abbrev pub key_load : OutTable → KeyParts → ℕ
key_load t key = label_load (key_label t key.number)
    + sum_by (λ row. record_load (values_of (entry_parts (keys_in t) key) row)) (rows_in t)

abbrev pub rows_load : OutTable → ℕ
rows_load t = label_load (table_label t) + sum_by (λ (row : StoredRow). record_load row.fields) (rows_in t)

-- a table with its keys
abbrev pub table_load : OutTable → ℕ
table_load t = rows_load t + sum_by (key_load t) (keys_in t).keys

-- the sum over all entries of all trees, at most 2^128 - 1
abbrev pub load : OutDb → ℕ
load db = min (sum_by table_load db.tables.items) (2 ^ 128 - 1)

-- each row has few enough values for a record
abbrev pub HaveFewValues : List OutRow → Type 0
HaveFewValues rows = (i : ℕ) → i < length rows → length (row_at rows i).fields ≤ 4000

abbrev pub HasFewValues : OutDb → Type 0
HasFewValues db = AllByRecursion (λ (t : OutTable). HaveFewValues t.rows.items) db.tables.items

-- a spot as a place: none is the rowid
abbrev pub place_of : Spot → Option ℕ
place_of Rowid = None
place_of (Field i) = Some i

-- the value at a place, given that of the rowid and what stands for a missing field
abbrev pub placed_value : Value → Value → List Value → Option ℕ → Value
placed_value rowid missing fields None = rowid
placed_value rowid missing fields (Some i) = slice_index_or fields i missing
