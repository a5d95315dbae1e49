-- The load of tables and of their keys, against the pages of their trees and their rows of the schema.
use Rattle.std.proofs.Common.{◌≡◌, ◌<◌, ◌≤◌, ℕ, ◌+◌, ◌*◌, ◌^◌, true, List, [], ◌∷◌, ◌++◌, length, map, filter, sum_by, ap, ◌∙◌, subst, arith, length-append}
use Rattle.std.specs.List.{All, AllByRecursion, concat}
use Rattle.std.proofs.lemmas.List.Elements.{filter_passes}
use Rattle.std.proofs.lemmas.List.Folds.{concat-append}
use Rattle.std.proofs.lemmas.List.Sums.{sum_by-cons}
use Rattle.page_access.specs.Pages.{File}
use Rattle.cell_reader.specs.declared.shapes.Kind.TheVariants as kinds
use Rattle.create_reader.proofs.One.{is_valid, one_shape}
use Rattle.raw_schema.specs.declared.rows.SchemaRow.{SchemaRow}
use Rattle.raw_schema.specs.Bounds.{sql_len}
use Rattle.table_shape.specs.declared.rows.OutTable.{OutTable}
use Rattle.table_shape.specs.Keys.{KeyParts, keys_of, parts_of}
use Rattle.table_shape.specs.Seen.{shape_seen}
use Rattle.table_shape.specs.Shape.{IsKeyOf, KeyColumns, Shape}
use Rattle.db_builder.specs.Load.{key_load, rows_load}
use Rattle.db_builder.specs.Plannable.{IsLabel}
use Rattle.db_builder.specs.Trees.{key_label, keys_in, rows_in, table_label}
use Rattle.db_builder.specs.Valid as valid
use Rattle.layout_laws.specs.Written.{table_of}
use Rattle.layout_laws.proofs.KeyNumbers.{keys_small}
use Rattle.layout_laws.proofs.Keys.{keys_rise}
use Rattle.page_room.proofs.Pages.{pages_more}
use Rattle.well_formed.specs.Indexes.{AreKeyIndexes, HasIndexes, HaveIndexes, IsKeyIndex, is_index_of}
use Rattle.well_formed.specs.Spells.{all_keys}
use Rattle.well_formed.specs.Tables.{AreTables, IsTable, tree_kind}
use Rattle.well_formed_load.proofs.Entries.{entries_cost, rows_cost}
use Rattle.well_formed_load.proofs.Keys.{HasRising, key_rows_sum, of_key}
use Rattle.well_formed_load.proofs.Labels.{label_small, row_size}
use Rattle.well_formed_load.proofs.Trees.{stored_fits}

-- pages of two lists
joined : (f : File) (ps qs : List ℕ) → length (ps ++ qs) * f.usable ≡ length ps * f.usable + length qs * f.usable
joined f ps qs = ap (λ n. n * f.usable) (length-append ps qs) ∙ pages_more (length ps) (length qs) f.usable

-- ---- a table

table_costs : (f : File) (row : SchemaRow) (t : OutTable) (used : List ℕ) → IsTable f row (table_of t) used
    → rows_load t ≤ 8 * row_size row + 8 * (length used * f.usable)
table_costs f row t used is =
    omega (
      arith,
      label_small (table_label t),
      ap length is.name,
      ap sql_len is.text,
      rows_cost f is.shape is.cells (rows_in t) (is_valid t.text is.shape is.shape_is) is.are is.rows,
      stored_fits f (tree_kind is.shape) is.root is.cells used is.stored,
    )

pub tables_cost : (f : File) (rows : List SchemaRow) (ts : List OutTable) (used : List (List ℕ)) → AreTables f rows (map table_of ts) used
    → sum_by rows_load ts ≤ 8 * sum_by row_size rows + 8 * (length (concat used) * f.usable)
tables_cost f [] [] [] are = omega arith
tables_cost f [] [] (u ∷ used) are = absurd are
tables_cost f [] (t ∷ ts) used are = absurd are
tables_cost f (row ∷ rows) [] used are = absurd are
tables_cost f (row ∷ rows) (t ∷ ts) [] are = absurd are
tables_cost f (row ∷ rows) (t ∷ ts) (u ∷ used) are =
    omega (
      arith,
      table_costs f row t u are.0,
      tables_cost f rows ts used are.1,
      joined f u (concat used),
      sum_by-cons rows_load t ts,
      sum_by-cons row_size row rows,
    )

-- ---- a key

key_costs : (f : File) (rows : List SchemaRow) (t : OutTable) (key : KeyColumns) (used : List ℕ) → valid.IsTable t → IsKeyOf t.shape.columns.items key
    → IsKeyIndex f rows (table_of t) (keys_in t) (parts_of (shape_seen t.shape) key) used
    → key_load t (parts_of (shape_seen t.shape) key) ≤ 8 * sum_by row_size (filter (is_index_of t.name key.number) rows) + 8 * (length used * f.usable)
key_costs f rows t key used good own is =
    let passes : is_index_of t.name key.number is.row ≡ true = subst (All (λ (r : SchemaRow). is_index_of t.name key.number r ≡ true)) is.one (filter_passes (is_index_of t.name key.number) rows) 0 is.row (omega arith) in
    let named = of_key t.name key.number is.row passes in
    omega (
      arith,
      label_small (key_label t key.number),
      ap length named.0,
      ap length named.1,
      ap (sum_by row_size) is.one,
      entries_cost f (shape_seen t.shape) key is.cells (rows_in t) t.shape.valid own good.rows is.entries,
      stored_fits f kinds.Index is.root is.cells used is.stored,
    )

keys_cost : (f : File) (rows : List SchemaRow) (t : OutTable) (keys : List KeyColumns) (used : List (List ℕ)) → valid.IsTable t
    → AllByRecursion (IsKeyOf t.shape.columns.items) keys → AreKeyIndexes f rows (table_of t) (keys_in t) (map (parts_of (shape_seen t.shape)) keys) used
    → sum_by (key_load t) (map (parts_of (shape_seen t.shape)) keys)
    ≤ 8 * key_rows_sum row_size rows t.name (map (parts_of (shape_seen t.shape)) keys) + 8 * (length (concat used) * f.usable)
keys_cost f rows t [] [] good own are = omega arith
keys_cost f rows t [] (u ∷ used) good own are = absurd are
keys_cost f rows t (key ∷ keys) [] good own are = absurd are
keys_cost f rows t (key ∷ keys) (u ∷ used) good own are =
    let these = map (parts_of (shape_seen t.shape)) keys in
    let one = parts_of (shape_seen t.shape) key in
    omega (
      arith,
      key_costs f rows t key u good own.0 are.0,
      keys_cost f rows t keys used good own.1 are.1,
      joined f u (concat used),
      sum_by-cons (key_load t) one these,
      sum_by-cons (λ (k : KeyParts). sum_by row_size (filter (is_index_of t.name k.number) rows)) one these,
    )

-- the keys of a table, whose text says one shape
table_keys_cost : (f : File) (rows : List SchemaRow) (t : OutTable) (used : List (List ℕ)) → valid.IsTable t → HasIndexes f rows (table_of t) used
    → sum_by (key_load t) (keys_in t).keys ≤ 8 * key_rows_sum row_size rows t.name (keys_in t).keys + 8 * (length (concat used) * f.usable)
table_keys_cost f rows t used good has =
    let s = shape_seen t.shape in
    let same : has.shape ≡ s = one_shape t.text has.shape s has.shape_is good.text in
    keys_cost f rows t s.keys used good t.shape.valid.keys
    (subst (λ (x : Shape). AreKeyIndexes f rows (table_of t) (keys_of x) (keys_of x).keys used) same has.indexes)

pub all_keys_cost : (f : File) (rows : List SchemaRow) (ts : List OutTable) (used : List (List (List ℕ))) → AllByRecursion valid.IsTable ts
    → HaveIndexes f rows (map table_of ts) used
    → sum_by (λ (t : OutTable). sum_by (key_load t) (keys_in t).keys) ts
    ≤ 8 * sum_by (λ (t : OutTable). key_rows_sum row_size rows t.name (keys_in t).keys) ts + 8 * (length (concat (all_keys used)) * f.usable)
all_keys_cost f rows [] [] good have = omega arith
all_keys_cost f rows [] (u ∷ used) good have = absurd have
all_keys_cost f rows (t ∷ ts) [] good have = absurd have
all_keys_cost f rows (t ∷ ts) (u ∷ used) good have =
    let pages : length (concat (u ++ all_keys used)) * f.usable ≡ length (concat u) * f.usable + length (concat (all_keys used)) * f.usable =
    ap (λ (ps : List ℕ). length ps * f.usable) (concat-append u (all_keys used)) ∙ joined f (concat u) (concat (all_keys used)) in
    omega (
      arith,
      table_keys_cost f rows t u good.0 have.0,
      all_keys_cost f rows ts used good.1 have.1,
      pages,
      sum_by-cons (λ (x : OutTable). sum_by (key_load x) (keys_in x).keys) t ts,
      sum_by-cons (λ (x : OutTable). key_rows_sum row_size rows x.name (keys_in x).keys) t ts,
    )

-- ---- the numbers of keys

-- a table whose row is not large has keys whose numbers fit
rising : (f : File) (row : SchemaRow) (t : OutTable) (used : List ℕ) → valid.IsTable t → IsTable f row (table_of t) used → row_size row < 2 ^ 38 → HasRising t
rising f row t used good is small =
    let name = ap length is.name in
    let text = ap sql_len is.text in
    let label : IsLabel (table_label t) = λ root. record { few = omega arith; small = omega (arith, name, text, small) } in
    keys_rise (shape_seen t.shape) 0 (shape_seen t.shape).keys t.shape.valid.rising (keys_small t good label)

pub all_rising : (f : File) (rows : List SchemaRow) (ts : List OutTable) (used : List (List ℕ)) → AllByRecursion valid.IsTable ts → AreTables f rows (map table_of ts) used
    → sum_by row_size rows < 2 ^ 38 → AllByRecursion HasRising ts
all_rising f [] [] used good are small = tt
all_rising f [] (t ∷ ts) used good are small = absurd are
all_rising f (row ∷ rows) [] used good are small = absurd are
all_rising f (row ∷ rows) (t ∷ ts) [] good are small = absurd are
all_rising f (row ∷ rows) (t ∷ ts) (u ∷ used) good are small =
    let sum = sum_by-cons row_size row rows in
    (rising f row t u good.0 are.0 (omega (arith, sum, small)), all_rising f rows ts used good.1 are.1 (omega (arith, sum, small)))
