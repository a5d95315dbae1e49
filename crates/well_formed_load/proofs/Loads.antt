-- A well-formed file spells a database whose load is below eight times its length.
use Rattle.std.proofs.Common.{◌≡◌, ◌<◌, ◌≤◌, inl, inr, ℕ, ◌+◌, ◌-◌, ◌*◌, ◌^◌, ◌&&◌, Bool, true, false, List, [], ◌∷◌, ◌++◌, length, map, filter, min, not, sum_by, refl, ap, ◌∙◌, arith, length-append}
use Rattle.std.specs.Prelude.{if◌then◌else◌, is_none}
use Rattle.std.specs.List.{concat}
use Rattle.std.proofs.Math.Nat.{mul-le-mul_right}
use Rattle.page_access.specs.Files.{max_input}
use Rattle.page_lists.specs.Lists.{count}
use Rattle.page_lists.specs.Table.{is_page}
use Rattle.page_lists.proofs.Counts.{count-append}
use Rattle.cell_reader.specs.declared.shapes.Kind.TheVariants as kinds
use Rattle.raw_schema.specs.declared.rows.SchemaKind.{SchemaKind}
use Rattle.raw_schema.specs.declared.rows.SchemaKind.TheVariants.{Table, Index, View, Trigger}
use Rattle.raw_schema.specs.declared.rows.SchemaRow.{SchemaRow}
use Rattle.table_shape.specs.declared.rows.OutTable.{OutTable}
use Rattle.db_builder.specs.declared.databases.OutDb.{OutDb}
use Rattle.db_builder.specs.Load.{key_load, load, rows_load, table_load}
use Rattle.db_builder.specs.Trees.{keys_in}
use Rattle.db_builder.specs.Valid.{IsValid}
use Rattle.layout_laws.specs.Written.{database_of, table_of}
use Rattle.page_room.proofs.Pages.{few_pages, pages_more}
use Rattle.well_formed.specs.Database.{Database, empty_database}
use Rattle.well_formed.specs.Header.{file_in}
use Rattle.well_formed.specs.Indexes.{automatic_rows}
use Rattle.well_formed.specs.Spells.{IsWellFormed, all_keys}
use Rattle.well_formed.specs.Tables.{is_of, is_stored, is_virtual_sql}
use Rattle.well_formed_load.specs.Laws.{SmallLoad}
use Rattle.well_formed_load.proofs.Keys.{keys_count}
use Rattle.well_formed_load.proofs.Labels.{row_size, rows_sized}
use Rattle.well_formed_load.proofs.Sums.{sum_apart, sum_plus}
use Rattle.well_formed_load.proofs.Tables.{all_keys_cost, all_rising, tables_cost}
use Rattle.well_formed_load.proofs.Trees.{stored_fits}

-- ---- pages

-- the pages of the schema, of the tables and of the keys are some of the file's
pages_of_all : (n : ℕ) (schema tables keys rest : List ℕ)
    → ((q : ℕ) → count q (schema ++ (tables ++ (keys ++ rest))) ≡ (if is_page n q then 1 else 0)) → length schema + length (tables ++ keys) ≤ n
pages_of_all n schema tables keys rest uses =
    few_pages n schema (tables ++ keys) (λ q.
    omega (
      arith,
      uses q,
      count-append q schema (tables ++ (keys ++ rest)),
      count-append q tables (keys ++ rest),
      count-append q keys rest,
      count-append q tables keys,
    ))

-- the file has a byte for each usable byte of its pages
usable_bytes : (bytes : List ℕ) (db : OutDb) → IsWellFormed bytes (database_of db) → (file_in bytes).pages * (file_in bytes).usable ≤ length bytes
unfolding file_in
usable_bytes bytes db w = grind (arith, w.header.whole)

-- ---- rows

-- a row for a table is none for an automatic index
kinds_apart : (row : SchemaRow) → is_stored row ≡ true → (is_of Index row.kind && is_none row.sql) ≡ false
kinds_apart row stored = by row.kind (is_none row.sql) stored
  where
    by : (kind : SchemaKind) (b : Bool) → (is_of Table kind && not (is_virtual_sql row.sql)) ≡ true → (is_of Index kind && b) ≡ false
    by Table b e = refl
    by Index b e = absurd cc
    by View b e = refl
    by Trigger b e = refl

-- ---- the load

formed_load : (bytes : List ℕ) (db : OutDb) → IsValid db → length bytes ≤ max_input → IsWellFormed bytes (database_of db) → load db < 8 * length bytes
formed_load bytes db good few w =
    let f = file_in bytes in
    let ts = db.tables.items in
    let autos = automatic_rows w.rows in
    let tables = concat w.tables_used in
    let keys = concat (all_keys w.keys_used) in
    let schema = stored_fits f kinds.Table 1 w.schema.cells w.schema_used w.schema.stored in
    let sized = rows_sized f w.schema.cells w.rows w.schema.are in
    let apart = sum_apart is_stored (λ (row : SchemaRow). is_of Index row.kind && is_none row.sql) row_size kinds_apart w.rows in
    let pages = pages_of_all f.pages w.schema_used tables keys _ w.uses in
    let sum : (length w.schema_used + length (tables ++ keys)) * f.usable ≡ length w.schema_used * f.usable + (length tables * f.usable + length keys * f.usable) =
    pages_more (length w.schema_used) (length (tables ++ keys)) f.usable ∙ ap (λ n. length w.schema_used * f.usable + n) (ap (λ n. n * f.usable) (length-append tables keys) ∙ pages_more (length tables) (length keys) f.usable) in
    let room : (length w.schema_used + length (tables ++ keys)) * f.usable ≤ f.pages * f.usable = mul-le-mul_right f.usable pages in
    let whole = usable_bytes bytes db w in
    let rows = tables_cost f (filter is_stored w.rows) ts w.tables_used w.tables.tables in
    let of_keys = all_keys_cost f autos ts w.keys_used good.tables w.keys.indexes in
    let rise = all_rising f (filter is_stored w.rows) ts w.tables_used good.tables w.tables.tables (omega (arith, apart, sized, schema, sum, room, whole, few)) in
    let counted = keys_count row_size autos ts good.names rise in
    let both = sum_plus rows_load (λ (t : OutTable). sum_by (key_load t) (keys_in t).keys) ts in
    omega (arith, rows, of_keys, counted, apart, sized, schema, sum, room, whole, both)

-- a database without tables has none
no_load : (db : OutDb) → database_of db ≡ empty_database → load db ≡ 0
no_load db empty = ap (λ (ts : List OutTable). min (sum_by table_load ts) (2 ^ 128 - 1)) (none db.tables.items (ap (λ (d : Database). d.tables) empty))
  where
    none : (ts : List OutTable) → map table_of ts ≡ [] → ts ≡ []
    none [] same = refl
    none (t ∷ ts) same = absurd cc

pub small_load : SmallLoad
small_load bytes db good few (inl none) =
    record { below = λ some. absurd (omega (arith, ap length none.0, some)); none = λ no_bytes. no_load db none.1 }
small_load bytes db good few (inr w) =
    let below = formed_load bytes db good few w in
    record { below = λ some. below; none = λ no_bytes. absurd (omega (arith, below, no_bytes)) }
