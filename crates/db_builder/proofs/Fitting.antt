-- A table that can be written, and whose load is not too large, can be planned.
use Rattle.std.proofs.Common.{◌≡◌, ◌≤◌, ◌^◌, ℕ, Bool, true, false, not, ◌&&◌, List, [], ◌∷◌, length, map, filter, sum_by, refl, subst, arith, length-append}
use Rattle.std.specs.Prelude.{None, is_some, if◌then◌else◌}
use Rattle.std.specs.Cmp.Lexicographic.{slice_cmp}
use Rattle.std.specs.List.{AllByRecursion}
use Rattle.std.specs.List.Sorted.{IsStrictlySortedBy}
use Rattle.std.proofs.lemmas.Bool.{ltb-false}
use Rattle.std.proofs.lemmas.List.{length-map}
use Rattle.std.proofs.lemmas.List.Sums.{count_by-le-length, get_or-le-sum_by, length-filter}
use Rattle.key_order.specs.Order.{value_cmp}
use Rattle.record_core.specs.declared.values.Value.{Value}
use Rattle.table_shape.specs.declared.keys.KeyPart.{KeyPart}
use Rattle.table_shape.specs.declared.rows.OutTable.{OutTable}
use Rattle.table_shape.specs.Entries.{entry_parts, follows, in_order}
use Rattle.table_shape.specs.Keys.{KeyParts, StoredRow, first_of, fits, key_of, part_of, parts_of, rowid_part, value_at, values_of}
use Rattle.table_shape.specs.Seen.{row_seen, shape_seen}
use Rattle.table_shape.specs.Shape.{IsKeyOf, KeyColumns, Shape, IsShape}
use Rattle.table_shape.proofs.Few.{few_primary}
use Rattle.tree_writer.specs.Entry.{HasBytes, HaveNoRowids, RowidsRise, weight}
use Rattle.tree_writer.proofs.Writing.{all_at}
use Rattle.db_builder.specs.Layout.{row_values}
use Rattle.db_builder.specs.Load.{HaveFewValues, key_load, label_load, record_load, rows_load, table_load}
use Rattle.db_builder.specs.Plannable.{IsKeyPlannable, IsLabel, IsPlannable}
use Rattle.db_builder.specs.Prepared.{AreReadable}
use Rattle.db_builder.specs.Trees.{Label, index_entry, key_label, key_tree, keys_in, row_entry, rows_in, table_label, table_tree}
use Rattle.db_builder.specs.Valid.{IsTable}
use Rattle.db_builder.specs.Views.{no_row, row_at}
use Rattle.db_builder.proofs.Lengths.{record_some, writable}
use Rattle.db_builder.proofs.Rowids.{no_rowids, rowids_rise}
use Rattle.db_builder.proofs.Standing.{few_key}
use Rattle.db_builder.proofs.Sums.{each_within, ordered_within, sum_by-map, sum_least}

first_off : (a b : Bool) → (not a && b) ≡ true → a ≡ false
first_off true b h = absurd cc
first_off false b h = refl

-- a row that fits its table has no more values than the table has columns
pub few_of : (t : OutTable) → IsTable t → HaveFewValues t.rows.items
few_of t is i lt =
    let rows = t.rows.items in
    let fit : fits (keys_in t) (row_at rows i) ≡ true = all_at (λ row. fits (keys_in t) row ≡ true) no_row (rows_in t) i is.rows.fit (omega (arith, lt, length-map rows row_seen)) in
    omega (arith, ltb-false (length t.shape.columns.items) (length (row_at rows i).fields) (first_off _ _ fit), t.shape.valid.few)

-- ---- entries

pub all_mapped : {X Y : Type 0} (P : Y → Type 0) (f : X → Y) (xs : List X) → ((x : X) → P (f x)) → AllByRecursion P (map f xs)
all_mapped P f [] each = tt
all_mapped P f (x ∷ xs) each = (each x, all_mapped P f xs each)

pub rows_weigh : (rows : List StoredRow) → sum_by weight (map row_entry rows) ≡ sum_by (λ (row : StoredRow). record_load row.fields) rows
rows_weigh rows = sum_by-map weight row_entry rows

pub rows_some : (rows : List StoredRow) → AllByRecursion HasBytes (map row_entry rows)
rows_some rows = all_mapped HasBytes row_entry rows (λ row. record_some row.fields)

-- each row has an entry at most, and its record
pub key_weighs : (t : OutTable) (key : KeyParts)
    → sum_by weight (key_tree t key).entries ≤ sum_by (λ row. record_load (values_of (entry_parts (keys_in t) key) row)) (rows_in t)
key_weighs t key =
    let parts = entry_parts (keys_in t) key in
    let es = in_order (key_of parts) (rows_in t) in
    let values : List Value × StoredRow → List Value = λ e. values_of parts e.1 in
    omega (
      arith,
      sum_by-map weight index_entry (map values es),
      sum_by-map (λ (vs : List Value). weight (index_entry vs)) values es,
      ordered_within (key_of parts) (λ row. record_load (values_of parts row)) (rows_in t),
    )

pub key_some : (t : OutTable) (key : KeyParts) → AllByRecursion HasBytes (key_tree t key).entries
key_some t key = all_mapped HasBytes index_entry _ (λ values. record_some values)

-- ---- the rows of the schema

label_writable : (l : Label) → label_load l ≤ 2 ^ 35 → IsLabel l
label_writable l load = λ root. record { few = omega arith; small = (writable (row_values l (2 ^ 30)) (omega arith) (omega (arith, load))).small }

-- ---- keys

few_first : (s : Shape) → IsShape s → length (first_of s) ≤ 2000
few_first s is = by s.without_rowid
  where
    by : (b : Bool) → length (if b then map (part_of s) s.primary else rowid_part ∷ []) ≤ 2000
    by true = omega (arith, few_primary s is, length-map s.primary (part_of s))
    by false = omega arith

few_parts : (t : OutTable) (k : KeyColumns) → IsKeyOf t.shape.columns.items k → length (entry_parts (keys_in t) (parts_of (shape_seen t.shape) k)) ≤ 4000
few_parts t k is =
    let s = shape_seen t.shape in
    let key = parts_of s k in
    let p : KeyPart → Bool = λ part. follows key.parts part.spot in
    omega (
      arith,
      length-append key.parts (filter p (first_of s)),
      length-map k.columns (part_of s),
      few_key t.shape.columns.items k t.shape.valid.few is,
      length-filter p (first_of s),
      count_by-le-length p (first_of s),
      few_first s t.shape.valid,
    )

key_fits : (t : OutTable) (k : KeyColumns) → IsKeyOf t.shape.columns.items k → key_load t (parts_of (shape_seen t.shape) k) ≤ 2 ^ 35
    → IsKeyPlannable t (parts_of (shape_seen t.shape) k)
key_fits t k is load =
    let key = parts_of (shape_seen t.shape) k in
    let parts = entry_parts (keys_in t) key in
    record {
      records = λ i lt. writable (values_of parts (row_at t.rows.items i))
          (omega (arith, length-map parts (λ (p : KeyPart). value_at (row_at t.rows.items i) p.spot), few_parts t k is))
          (omega (arith, load, get_or-le-sum_by (λ row. record_load (values_of parts row)) (rows_in t) i no_row (omega (arith, lt, length-map t.rows.items row_seen))));
      entries = record { some = key_some t key; load = omega (arith, key_weighs t key, load) };
      label = label_writable (key_label t key.number) (omega (arith, load));
    }

keys_fit : (t : OutTable) (ks : List KeyColumns) → AllByRecursion (IsKeyOf t.shape.columns.items) ks
    → AllByRecursion (λ key. key_load t key ≤ 2 ^ 35) (map (parts_of (shape_seen t.shape)) ks) → AllByRecursion (IsKeyPlannable t) (map (parts_of (shape_seen t.shape)) ks)
keys_fit t [] are load = tt
keys_fit t (k ∷ ks) are load = (key_fits t k are.0 load.0, keys_fit t ks are.1 load.1)

-- ---- the table

rows_readable : (t : OutTable) → IsTable t → rows_load t ≤ 2 ^ 35 → AreReadable t.rows.items
rows_readable t is load =
    let f : StoredRow → ℕ = λ row. record_load row.fields in
    record {
      few = omega (arith, load, length-map t.rows.items row_seen, sum_least f 32 (rows_in t) (λ row. omega arith));
      writable = λ i lt. writable (row_at t.rows.items i).fields (few_of t is i lt)
          (omega (arith, load, get_or-le-sum_by f (rows_in t) i no_row (omega (arith, lt, length-map t.rows.items row_seen))));
    }

rows_rise : (t : OutTable) → IsTable t → t.shape.without_rowid ≡ false → RowidsRise None (table_tree t).entries
rows_rise t is e = rowids_rise (rows_in t)
    (subst (λ b. AllByRecursion (λ (row : StoredRow). is_some row.rowid ≡ not b) (rows_in t)) e is.rowids)
    (subst (λ b. IsStrictlySortedBy (slice_cmp value_cmp) (map (key_of (if b then map (part_of (shape_seen t.shape)) t.shape.primary.items else rowid_part ∷ [])) (rows_in t))) e is.rows.rise)

rows_none : (t : OutTable) → IsTable t → t.shape.without_rowid ≡ true → HaveNoRowids (table_tree t).entries
rows_none t is e = no_rowids (rows_in t) (subst (λ b. AllByRecursion (λ (row : StoredRow). is_some row.rowid ≡ not b) (rows_in t)) e is.rowids)

pub table_fits : (t : OutTable) → IsTable t → table_load t ≤ 2 ^ 35 → IsPlannable t
table_fits t is load =
    let rows : rows_load t ≤ 2 ^ 35 = omega (arith, load) in
    record {
      rows = rows_readable t is rows;
      entries = record { some = rows_some (rows_in t); load = omega (arith, rows_weigh (rows_in t), rows) };
      rowids = rows_rise t is;
      no_rowids = rows_none t is;
      label = label_writable (table_label t) (omega (arith, rows));
      keys = keys_fit t _ t.shape.valid.keys (each_within (key_load t) (2 ^ 35) (keys_in t).keys (omega (arith, load)));
    }

pub tables_fit : (ts : List OutTable) → AllByRecursion IsTable ts → AllByRecursion (λ t. table_load t ≤ 2 ^ 35) ts → AllByRecursion IsPlannable ts
tables_fit [] are load = tt
tables_fit (t ∷ ts) are load = (table_fits t are.0 load.0, tables_fit ts are.1 load.1)
