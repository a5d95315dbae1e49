-- Entries as views over the given rows.
use Rattle.std.specs.Prelude.{◌<◌, ℕ, None, List, [], length, map, slice_index_or}
use Rattle.record_core.specs.declared.values.Value.{Value}
use Rattle.record_core.specs.Shortest.{IsWritable}
use Rattle.table_shape.specs.declared.keys.KeyPart.{KeyPart}
use Rattle.table_shape.specs.declared.keys.Spot.{Spot}
use Rattle.table_shape.specs.declared.keys.Spot.TheVariants.{Rowid, Field}
use Rattle.table_shape.specs.declared.rows.OutRow.{OutRow}
use Rattle.table_shape.specs.Keys.{StoredRow, values_of}
use Rattle.table_shape.specs.Seen.{row_seen}
use Rattle.tree_writer.specs.Entry.{Entry}
use Rattle.db_builder.specs.Trees.{index_entry, row_entry}

abbrev pub no_row : StoredRow
no_row = record { rowid = None; fields = [] }

-- row i, counted from 0
abbrev pub row_at : List OutRow → ℕ → StoredRow
row_at rows i = slice_index_or (map row_seen rows) i no_row

-- the value at a spot, given that of the rowid and what stands for a missing field
abbrev pub spot_value : Value → Value → List Value → Spot → Value
spot_value rowid missing fields Rowid = rowid
spot_value rowid missing fields (Field i) = slice_index_or fields i missing

-- the entries of rows
abbrev pub row_entries : List OutRow → List Entry
row_entries rows = map row_entry (map row_seen rows)

-- the entries of an index, in an order of its rows
abbrev pub index_entries : List KeyPart → List OutRow → List ℕ → List Entry
index_entries parts rows order = map (λ j. index_entry (values_of parts (row_at rows j))) order

-- each row's record can be written
abbrev pub AreWritable : List OutRow → Type 0
AreWritable rows = (i : ℕ) → i < length rows → IsWritable (row_at rows i).fields

-- each row's index record can be written
abbrev pub HaveIndexRecords : List KeyPart → List OutRow → Type 0
HaveIndexRecords parts rows = (i : ℕ) → i < length rows → IsWritable (values_of parts (row_at rows i))

-- an order names rows
abbrev pub NamesRows : List ℕ → ℕ → Type 0
NamesRows order rows = (j : ℕ) → j < length order → slice_index_or order j 0 < rows
