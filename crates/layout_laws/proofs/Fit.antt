-- What the tables of a valid database give: trees that can be read back, and records that can.
use Rattle.std.proofs.Common.{◌≡◌, ◌<◌, ℕ, zero, suc, ◌+◌, ◌^◌, Bool, true, false, not, List, [], ◌∷◌, length, get_or, map, refl, sym, ap, ◌∙◌, subst, arith}
use Rattle.std.specs.Prelude.{Option, Some, None, ℤ, IfSome, is_some}
use Rattle.std.specs.List.{AllByRecursion}
use Rattle.std.specs.BTreeMap.{insert_entry}
use Rattle.std.specs.Cmp.Lexicographic.{slice_cmp}
use Rattle.std.specs.Ordering.{match_ordering}
use Rattle.std.specs.declared.cmp.Ordering.{Ordering}
use Rattle.std.specs.declared.cmp.Ordering.TheVariants.{Less, Equal, Greater}
use Rattle.std.proofs.lemmas.List.{length-map}
use Rattle.cell_reader.specs.declared.shapes.Kind.TheVariants.{Table, Index}
use Rattle.key_order.specs.Order.{value_cmp}
use Rattle.record_core.specs.declared.values.Value.{Value}
use Rattle.record_core.specs.declared.values.Value.TheVariants.{Null}
use Rattle.record_core.specs.Shortest.{AllStored, IsStored, IsWritable, steps}
use Rattle.table_shape.specs.declared.keys.KeyPart.{KeyPart}
use Rattle.table_shape.specs.declared.keys.Spot.{Spot}
use Rattle.table_shape.specs.declared.keys.Spot.TheVariants.{Rowid, Field}
use Rattle.table_shape.specs.declared.rows.OutTable.{OutTable}
use Rattle.table_shape.specs.Entries.{entries_of, entry_parts, in_order}
use Rattle.table_shape.specs.Keys.{KeyParts, StoredRow, key_of, number_of, value_at, values_of}
use Rattle.table_shape.specs.Seen.{row_seen}
use Rattle.tree_writer.specs.Entry.{Entry, HaveNoRowids}
use Rattle.tree_writer.proofs.Raising.{all_append}
use Rattle.written_trees.specs.Trees.{HasRowid}
use Rattle.db_builder.specs.Layout.{numbered}
use Rattle.db_builder.specs.Plannable.{IsKeyPlannable, IsPlannable}
use Rattle.db_builder.specs.Trees.{index_entry, key_tree, keys_in, kind_of, row_entry, rows_in, table_tree, table_trees, trees_of}
use Rattle.db_builder.specs.Valid.{IsTable}
use Rattle.db_builder.specs.Views.{no_row}
use Rattle.layout_laws.specs.Written.{HasTypedRows, IsTypedRow}
use Rattle.layout_laws.proofs.Reading.{IsGood}
use Rattle.layout_laws.proofs.Standing.{CanStand}

-- ---- lists

all_from : {X : Type 0} (P : X → Type 0) (d : X) (xs : List X) → ((i : ℕ) → i < length xs → P (get_or xs i d)) → AllByRecursion P xs
all_from P d [] each = tt
all_from P d (x ∷ xs) each = (each 0 (omega arith), all_from P d xs (λ i lt. each (suc i) (omega arith)))

both_hold : {X : Type 0} (P Q R : X → Type 0) (xs : List X) → ((x : X) → P x → Q x → R x) → AllByRecursion P xs → AllByRecursion Q xs → AllByRecursion R xs
both_hold P Q R [] join ps qs = tt
both_hold P Q R (x ∷ xs) join ps qs = (join x ps.0 qs.0, both_hold P Q R xs join ps.1 qs.1)

-- ---- rowids

rowid_typed : (z : Option ℤ) → is_some z ≡ true → IfSome z (λ n. steps n < 2 ^ 63) → HasRowid Table z
rowid_typed None some typed = absurd cc
rowid_typed (Some n) some typed = typed

table_rowids : (rows : List StoredRow) → AllByRecursion (λ (row : StoredRow). is_some row.rowid ≡ true) rows → AllByRecursion IsTypedRow rows
    → AllByRecursion (λ (e : Entry). HasRowid Table e.rowid) (map row_entry rows)
table_rowids [] some typed = tt
table_rowids (row ∷ rows) some typed = (rowid_typed row.rowid some.0 typed.0.rowid, table_rowids rows some.1 typed.1)

index_rowids : (es : List Entry) → HaveNoRowids es → AllByRecursion (λ (e : Entry). HasRowid Index e.rowid) es
index_rowids [] none = tt
index_rowids (e ∷ es) none = (subst (HasRowid Index) (sym none.0) tt, index_rowids es none.1)

no_rowids : (records : List (List Value)) → HaveNoRowids (map index_entry records)
no_rowids [] = tt
no_rowids (values ∷ records) = (refl, no_rowids records)

-- ---- trees

table_can : (t : OutTable) → IsTable t → HasTypedRows t → IsPlannable t → CanStand (table_tree t)
table_can t is typed can = by t.shape.without_rowid refl
  where
    by : (b : Bool) → t.shape.without_rowid ≡ b → CanStand (table_tree t)
    by true e = record {
      entries_are = can.entries;
      rowids = subst (λ b. AllByRecursion (λ (x : Entry). HasRowid (kind_of b) x.rowid) (table_tree t).entries) (sym e) (index_rowids (table_tree t).entries (can.no_rowids e));
      rise = λ table. absurd (let other : Index ≡ Table = ap kind_of (sym e) ∙ table in cc);
    }
    by false e = record {
      entries_are = can.entries;
      rowids = subst (λ b. AllByRecursion (λ (x : Entry). HasRowid (kind_of b) x.rowid) (table_tree t).entries) (sym e)
          (table_rowids (rows_in t) (subst (λ b. AllByRecursion (λ (row : StoredRow). is_some row.rowid ≡ not b) (rows_in t)) e is.rowids) typed);
      rise = λ table. can.rowids e;
    }

key_can : (t : OutTable) (key : KeyParts) → IsKeyPlannable t key → CanStand (key_tree t key)
key_can t key can = record {
  entries_are = can.entries;
  rowids = index_rowids (key_tree t key).entries (no_rowids (entries_of (keys_in t) key (rows_in t)));
  rise = λ table. absurd (let other : Index ≡ Table = table in cc);
}

keys_can : (t : OutTable) (keys : List KeyParts) → AllByRecursion (IsKeyPlannable t) keys → AllByRecursion CanStand (map (key_tree t) keys)
keys_can t [] can = tt
keys_can t (key ∷ keys) can = (key_can t key can.0, keys_can t keys can.1)

pub trees_can : (ts : List OutTable) → AllByRecursion IsTable ts → AllByRecursion HasTypedRows ts → AllByRecursion IsPlannable ts → AllByRecursion CanStand (trees_of ts)
trees_can [] is typed can = tt
trees_can (t ∷ ts) is typed can =
    all_append CanStand (table_trees t) (trees_of ts) (table_can t is.0 typed.0 can.0, keys_can t (keys_in t).keys can.0.keys) (trees_can ts is.1 typed.1 can.1)

-- the entries of the schema have rowids
pub numbered_rowids : (k : ℕ) (records : List (List ℕ)) → k + length records < 2 ^ 63 → AllByRecursion (λ (e : Entry). HasRowid Table e.rowid) (numbered k records)
numbered_rowids k [] few = tt
numbered_rowids k (bytes ∷ records) few = (omega arith, numbered_rowids (k + 1) records (omega arith))

-- ---- records

-- the rows of a table are read back
pub rows_good : (t : OutTable) → HasTypedRows t → IsPlannable t → AllByRecursion (λ (row : StoredRow). IsGood row.fields) (rows_in t)
rows_good t typed can =
    both_hold (λ (row : StoredRow). IsWritable row.fields) IsTypedRow (λ (row : StoredRow). IsGood row.fields) (rows_in t)
    (λ row writable is. record { writable = writable; stored = is.fields })
    (all_from (λ (row : StoredRow). IsWritable row.fields) no_row (rows_in t) (λ i lt. can.rows.writable i (omega (arith, lt, length-map t.rows.items row_seen))))
    typed

-- a value of an index record is one of the row
value_typed : (row : StoredRow) (spot : Spot) → IsTypedRow row → IsStored (value_at row spot)
value_typed row Rowid is = of_rowid row.rowid is.rowid
  where
    of_rowid : (z : Option ℤ) → IfSome z (λ n. steps n < 2 ^ 63) → IsStored (number_of z)
    of_rowid None typed = tt
    of_rowid (Some n) typed = typed
value_typed row (Field i) is = within row.fields i is.fields
  where
    within : (values : List Value) (i : ℕ) → AllStored values → IsStored (get_or values i Null)
    within [] i all = tt
    within (v ∷ values) zero all = all 0 (omega arith)
    within (v ∷ values) (suc i) all = within values i (λ k lt. all (suc k) (omega arith))

values_typed : (row : StoredRow) (parts : List KeyPart) → IsTypedRow row → AllStored (values_of parts row)
values_typed row [] is k lt = absurd (omega arith)
values_typed row (p ∷ parts) is zero lt = value_typed row p.spot is
values_typed row (p ∷ parts) is (suc k) lt = values_typed row parts is k (omega arith)

-- what holds of all rows holds of those that an order of them has
abbrev Ordered : (StoredRow → Type 0) → List (List Value × StoredRow) → Type 0
Ordered P es = AllByRecursion (λ (e : List Value × StoredRow). P e.1) es

insert_holds : (P : StoredRow → Type 0) (es : List (List Value × StoredRow)) (key : List Value) (row : StoredRow) → P row → Ordered P es
    → Ordered P (insert_entry (slice_cmp value_cmp) es key row)
insert_holds P [] key row p all = (p, tt)
insert_holds P (e ∷ es) key row p all = by (slice_cmp value_cmp key e.0) (insert_holds P es key row p all.1)
  where
    by : (o : Ordering) → Ordered P (insert_entry (slice_cmp value_cmp) es key row)
        → Ordered P (match_ordering o ((key, row) ∷ e ∷ es) ((e.0, row) ∷ es) (e ∷ insert_entry (slice_cmp value_cmp) es key row))
    by Less more = (p, all)
    by Equal more = (p, all.1)
    by Greater more = (all.0, more)

order_holds : (P : StoredRow → Type 0) (key : StoredRow → List Value) (rows : List StoredRow) → AllByRecursion P rows → Ordered P (in_order key rows)
order_holds P key [] all = tt
order_holds P key (row ∷ rows) all = insert_holds P (in_order key rows) (key row) row all.0 (order_holds P key rows all.1)

mapped_good : (parts : List KeyPart) (es : List (List Value × StoredRow)) → Ordered (λ row. IsGood (values_of parts row)) es
    → AllByRecursion IsGood (map (λ (e : List Value × StoredRow). values_of parts e.1) es)
mapped_good parts [] all = tt
mapped_good parts (e ∷ es) all = (all.0, mapped_good parts es all.1)

-- the records of a key are read back
pub key_good : (t : OutTable) (key : KeyParts) → HasTypedRows t → IsKeyPlannable t key → AllByRecursion IsGood (entries_of (keys_in t) key (rows_in t))
key_good t key typed can =
    let parts = entry_parts (keys_in t) key in
    let good : AllByRecursion (λ (row : StoredRow). IsGood (values_of parts row)) (rows_in t) =
    both_hold (λ (row : StoredRow). IsWritable (values_of parts row)) IsTypedRow (λ (row : StoredRow). IsGood (values_of parts row)) (rows_in t)
    (λ row writable is. record { writable = writable; stored = values_typed row parts is })
    (all_from (λ (row : StoredRow). IsWritable (values_of parts row)) no_row (rows_in t) (λ i lt. can.records i (omega (arith, lt, length-map t.rows.items row_seen))))
    typed in
    mapped_good parts (in_order (key_of parts) (rows_in t)) (order_holds (λ row. IsGood (values_of parts row)) (key_of parts) (rows_in t) good)
