-- The rows of the schema: what each takes of the schema's tree at least, and what the label of a tree adds to the load.
use Rattle.std.proofs.Common.{◌≡◌, ◌≤◌, ℕ, ◌+◌, ◌^◌, pos, Option, None, List, [], ◌∷◌, length, sum_by, refl, sym, ap, subst, arith, length-append}
use Rattle.std.specs.Int.{w64}
use Rattle.std.specs.List.{AllZip}
use Rattle.std.proofs.lemmas.List.Sums.{sum_by-cons}
use Rattle.byteorder.specs.Endian.{low_bytes}
use Rattle.byteorder.specs.Numbers.{length-bytes_high_first}
use Rattle.page_access.specs.Pages.{File}
use Rattle.cell_reader.specs.declared.shapes.Kind.TheVariants as kinds
use Rattle.page_walk.specs.Cells.{Row}
use Rattle.record_core.specs.declared.values.Value.{Value}
use Rattle.record_core.specs.declared.values.Value.TheVariants.{Null, Whole, Real8, Text, Blob}
use Rattle.record_core.specs.Record.{body_len, value_len}
use Rattle.record_core.specs.Shortest.{bodies_of, body_of, types_of, whole_type}
use Rattle.record_core.proofs.Written.{types_short}
use Rattle.raw_schema.specs.declared.rows.SchemaKind.{SchemaKind}
use Rattle.raw_schema.specs.declared.rows.SchemaKind.TheVariants.{Table, Index, View, Trigger}
use Rattle.raw_schema.specs.declared.rows.SchemaRow.{SchemaRow}
use Rattle.raw_schema.specs.Bounds.{sql_len}
use Rattle.raw_schema.specs.Spelling.{IsSqlValue, SpellsRow, kind_text}
use Rattle.raw_schema.proofs.Spelled.{rows_are_spelled}
use Rattle.tree_forms.specs.Node.{Held}
use Rattle.tree_forms.specs.Payload.{payload_of}
use Rattle.db_builder.specs.Layout.{row_values}
use Rattle.db_builder.specs.Load.{label_load}
use Rattle.db_builder.specs.Trees.{Label}
use Rattle.well_formed.specs.Stored.{SpellsEntry}
use Rattle.well_formed_load.proofs.Records.{has_parts, record_few}
use Rattle.well_formed_load.proofs.Trees.{cost}

-- ---- what a row takes

-- its texts, and a byte for its record's size, five serial types, four bytes of the word for its kind, and four besides
abbrev pub row_size : SchemaRow → ℕ
row_size row = 14 + length row.name + length row.tbl + sql_len row.sql

word_some : (kind : SchemaKind) → 4 ≤ length (kind_text kind)
word_some Table = omega arith
word_some Index = omega arith
word_some View = omega arith
word_some Trigger = omega arith

sql_held : (v : Value) (sql : Option (List ℕ)) → IsSqlValue v sql → sql_len sql ≤ value_len v
sql_held Null sql is = omega (arith, ap sql_len is)
sql_held (Whole number) sql is = absurd is
sql_held (Real8 bytes) sql is = absurd is
sql_held (Text bytes) sql is = omega (arith, ap sql_len is)
sql_held (Blob bytes) sql is = absurd is

-- a cell with these values, wherever it stands
abbrev cell_of : List Value → Row
cell_of values = record { page = 0; cell = 0; rowid = None; chain = []; fields = values }

entry_sized : (f : File) (h : Held) (row : SchemaRow) → SpellsEntry f h row → row_size row ≤ cost f kinds.Table h
entry_sized f h row e =
    let w : SpellsRow (cell_of e.values) row = (rows_are_spelled (cell_of e.values) row).0 e.is_row in
    let p = has_parts (payload_of f h) e.values e.fields in
    let held : 4 + length row.name + length row.tbl + sql_len row.sql ≤ sum_by value_len e.values =
    subst (λ (vs : List Value). 4 + length row.name + length row.tbl + sql_len row.sql ≤ sum_by value_len vs) (sym w.values)
    (omega (arith, word_some row.kind, sql_held w.sql_value row.sql w.sql_is)) in
    omega (arith, held, p.long.held, p.long.each, p.long.types, ap length w.values, p.least)

pub rows_sized : (f : File) (cells : List Held) (rows : List SchemaRow) → AllZip (SpellsEntry f) cells rows
    → sum_by row_size rows ≤ sum_by (cost f kinds.Table) cells
rows_sized f [] [] zip = omega arith
rows_sized f [] (r ∷ rows) zip = absurd zip
rows_sized f (h ∷ hs) [] zip = absurd zip
rows_sized f (h ∷ hs) (r ∷ rows) zip =
    omega (arith, entry_sized f h r zip.0, rows_sized f hs rows zip.1, sum_by-cons row_size r rows, sum_by-cons (cost f kinds.Table) h hs)

-- ---- what a label adds to the load

root_len : body_len (whole_type (pos (2 ^ 30))) ≡ 4
unfolding body_len whole_type
root_len = refl

-- the texts of a label, and 82 bytes besides
pub label_small : (l : Label) → label_load l ≤ 82 + length l.type_name + length l.name + length l.table + length (body_of l.sql)
label_small l =
    let vs = row_values l (2 ^ 30) in
    let types : length (types_of vs) ≤ 45 = omega (arith, types_short vs) in
    omega (
      arith,
      types,
      record_few vs (omega (arith, types)),
      length-append l.type_name (bodies_of (Text l.name ∷ Text l.table ∷ Whole (pos (2 ^ 30)) ∷ l.sql ∷ [])),
      length-append l.name (bodies_of (Text l.table ∷ Whole (pos (2 ^ 30)) ∷ l.sql ∷ [])),
      length-append l.table (bodies_of (Whole (pos (2 ^ 30)) ∷ l.sql ∷ [])),
      length-append (body_of (Whole (pos (2 ^ 30)))) (bodies_of (l.sql ∷ [])),
      length-append (body_of l.sql) [],
      length-bytes_high_first (body_len (whole_type (pos (2 ^ 30)))) (low_bytes w64 (body_len (whole_type (pos (2 ^ 30)))) (pos (2 ^ 30))),
      root_len,
    )
