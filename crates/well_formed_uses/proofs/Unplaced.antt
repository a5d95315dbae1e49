-- Where a row of the schema stands changes neither what its text says nor which tree it wants.
use Rattle.std.proofs.Common.{◌≡◌, ℕ, zero, suc, ◌+◌, Bool, Option, Some, List, [], ◌∷◌, ◌++◌, slice_get, take, refl, sym, ap, ◌∙◌, subst, inl, inr}
use Rattle.std.specs.Prelude.{if◌then◌else◌}
use Rattle.std.specs.List.{AllByRecursion}
use Rattle.std.proofs.lemmas.Bool.{cases_Bool}
use Rattle.cell_reader.specs.declared.shapes.Kind.{Kind}
use Rattle.cell_reader.specs.declared.shapes.Kind.TheVariants as kinds
use Rattle.raw_schema.specs.declared.rows.SchemaRow.{SchemaRow}
use Rattle.schema_texts.specs.Readings.{AreReadings, IsReading, IsReadingIn, is_table, table_names, tables_from}
use Rattle.schema_texts.specs.declared.readings.Reading.{Reading}
use Rattle.schema_texts.specs.declared.readings.Reading.TheVariants as readings
use Rattle.schema_texts.specs.declared.readings.TableReading.{TableReading}
use Rattle.table_shape.specs.Names.{is_named}
use Rattle.tree_uses.specs.declared.walks.WantedTree.{WantedTree}
use Rattle.use_order.specs.Order.{index_trees, is_index}
use Rattle.well_formed_uses.specs.Rows.{all_unplaced, unplaced}

numbers_same : (i : ℕ) (rows : List SchemaRow) → tables_from i (all_unplaced rows) ≡ tables_from i rows
numbers_same i [] = refl
numbers_same i (row ∷ rows) = ap (λ (ns : List ℕ). (if is_table row.kind then i ∷ [] else []) ++ ns) (numbers_same (i + 1) rows)

names_same : (n : ℕ) (rows : List SchemaRow) → table_names (take n (all_unplaced rows)) ≡ table_names (take n rows)
names_same zero rows = refl
names_same (suc n) [] = refl
names_same (suc n) (row ∷ rows) =
    elim (cases_Bool (is_table row.kind)) [
      | inl e ↦ rw e (ap (λ (names : List (List ℕ)). row.name ∷ names) (names_same n rows))
      | inr e ↦ rw e (names_same n rows)
    ]

pub row_same : (rows : List SchemaRow) (j : ℕ) (row : SchemaRow) → slice_get rows j ≡ Some row → slice_get (all_unplaced rows) j ≡ Some (unplaced row)
row_same [] j row is = absurd (cc)
row_same (x ∷ rows) zero row is = let same : x ≡ row = cc in ap (λ (r : SchemaRow). Some (unplaced r)) same
row_same (x ∷ rows) (suc j) row is = row_same rows j row is

pub trees_same : (i : ℕ) (rows : List SchemaRow) → index_trees i (all_unplaced rows) ≡ index_trees i rows
trees_same i [] = refl
trees_same i (row ∷ rows) =
    ap (λ (ws : List WantedTree). (if is_index row.kind then record { row = i; root = row.root; kind = Some kinds.Index } ∷ [] else []) ++ ws) (trees_same (i + 1) rows)

reading_same : (ks : List (Option Kind)) (pages : ℕ) (row : SchemaRow) (double : Bool) (reading : Reading) → IsReading ks pages row double reading
    → IsReading ks pages (unplaced row) double reading
reading_same ks pages row double (readings.Shape s) read = read
reading_same ks pages row double (readings.Unread cause kind) (inl b) =
    inl (record { shape = b.shape; has_shape = b.has_shape; cause_is = b.cause_is; kind_is = b.kind_is })
reading_same ks pages row double (readings.Unread cause kind) (inr s) = inr (record { no_shape = s.no_shape; kind_is = s.kind_is })

one_same : (ks : List (Option Kind)) (pages : ℕ) (rows : List SchemaRow) (r : TableReading) → IsReadingIn ks pages rows r → IsReadingIn ks pages (all_unplaced rows) r
one_same ks pages rows r is = record {
  row = unplaced is.row;
  row_is = row_same rows r.row is.row is.row_is;
  root_is = is.root_is;
  reading = subst (λ (names : List (List ℕ)). IsReading ks pages (unplaced is.row) (is_named is.row.name names) r.reading) (sym (names_same r.row rows))
      (reading_same ks pages is.row (is_named is.row.name (table_names (take r.row rows))) r.reading is.reading);
}

each_same : (ks : List (Option Kind)) (pages : ℕ) (rows : List SchemaRow) (rs : List TableReading) → AllByRecursion (IsReadingIn ks pages rows) rs
    → AllByRecursion (IsReadingIn ks pages (all_unplaced rows)) rs
each_same ks pages rows [] all = tt
each_same ks pages rows (r ∷ rs) all = (one_same ks pages rows r all.0, each_same ks pages rows rs all.1)

pub readings_same : (ks : List (Option Kind)) (pages : ℕ) (rows : List SchemaRow) (rs : List TableReading) → AreReadings ks pages rows rs → AreReadings ks pages (all_unplaced rows) rs
readings_same ks pages rows rs are = record {
  numbers = are.numbers ∙ sym (numbers_same 0 rows);
  readings = each_same ks pages rows rs are.readings;
}
