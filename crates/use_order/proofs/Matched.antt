-- The trees of rows, by the numbers of the rows.
use Rattle.std.proofs.Common.{◌≡◌, ◌<◌, inl, inr, ℕ, ◌+◌, Option, List, [], ◌∷◌, length, map, refl, ◌∙◌, ap, subst, sym, arith}
use Rattle.std.specs.List.{AllByRecursion}
use Rattle.std.proofs.lemmas.Bool.{cases_Bool}
use Rattle.std.proofs.lemmas.Option.{slice_get_within}
use Rattle.cell_reader.specs.declared.shapes.Kind.{Kind}
use Rattle.page_walk.specs.Cells.{Outcome}
use Rattle.raw_schema.specs.declared.rows.SchemaRow.{SchemaRow}
use Rattle.schema_texts.specs.Readings.{AreReadings, IsReadingIn}
use Rattle.schema_texts.specs.declared.readings.TableReading.{TableReading}
use Rattle.tree_uses.specs.Trees.{Tree, tree_row, wanted_row}
use Rattle.use_order.specs.Order.{AreBelow, AreMatched, index_trees, is_index, reading_row, table_tree}

-- the tree of a table row is that of its reading
pub rows_wanted : (rs : List TableReading) → map wanted_row (map table_tree rs) ≡ map reading_row rs
rows_wanted [] = refl
rows_wanted (r ∷ rs) = ap (λ (ns : List ℕ). r.row ∷ ns) (rows_wanted rs)

-- readings are of rows that there are
readings_below : (kinds : List (Option Kind)) (pages : ℕ) (rows : List SchemaRow) (rs : List TableReading) → AllByRecursion (IsReadingIn kinds pages rows) rs
    → AllByRecursion (λ (i : ℕ). i < length rows) (map reading_row rs)
readings_below kinds pages rows [] all = tt
readings_below kinds pages rows (r ∷ rs) all =
    (slice_get_within rows r.row all.0.row all.0.row_is, readings_below kinds pages rows rs all.1)

below_more : (i n m : ℕ) → n ≡ m → i < n → i < m
below_more i n m same lt = omega (arith, same, lt)

-- so are the trees of index rows
indexes_below : (n i : ℕ) (rows : List SchemaRow) → i + length rows ≡ n → AllByRecursion (λ (k : ℕ). k < n) (map wanted_row (index_trees i rows))
indexes_below n i [] ends = tt
indexes_below n i (row ∷ rows) ends =
    elim (cases_Bool (is_index row.kind)) [
      | inl is ↦ rw is (omega (arith, ends), indexes_below n (i + 1) rows (omega (arith, ends)))
      | inr isnt ↦ rw isnt (indexes_below n (i + 1) rows (omega (arith, ends)))
    ]

rows_below : (n : ℕ) (trees : List Tree) → AllByRecursion (λ (k : ℕ). k < n) (map tree_row trees) → AreBelow n trees
rows_below n [] all = tt
rows_below n (t ∷ trees) all = (all.0, rows_below n trees all.1)

pub matched : (kinds : List (Option Kind)) (pages : ℕ) (rows : List SchemaRow) (rs : List TableReading) (tables indexes : List Tree)
    (turns : List (List (ℕ × List Outcome))) → AreReadings kinds pages rows rs → map tree_row tables ≡ map wanted_row (map table_tree rs)
    → map tree_row indexes ≡ map wanted_row (index_trees 0 rows) → length turns ≡ length tables → AreMatched rows rs tables indexes turns
matched kinds pages rows rs tables indexes turns read first second len = record {
  tables_are = first ∙ rows_wanted rs;
  indexes_are = second;
  tables_below = rows_below (length rows) tables
      (subst (AllByRecursion (λ (i : ℕ). i < length rows)) (sym (first ∙ rows_wanted rs)) (readings_below kinds pages rows rs read.readings));
  indexes_below = rows_below (length rows) indexes
      (subst (AllByRecursion (λ (i : ℕ). i < length rows)) (sym second) (indexes_below (length rows) 0 rows (omega arith)));
  turns_are = len;
}
