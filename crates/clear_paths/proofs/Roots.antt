-- The roots of the trees of tables and of indexes are roots of rows of the schema, each once.
use Rattle.std.proofs.Common.{◌≡◌, ◌≤◌, ℕ, zero, suc, ◌+◌, Option, Some, None, List, [], ◌∷◌, ◌++◌, map, slice_get, refl, sym, ◌∙◌, ap, arith}
use Rattle.std.specs.List.{AllByRecursion, flat_map}
use Rattle.std.proofs.lemmas.Grind.{flat_map-append}
use Rattle.page_lists.specs.Lists.{count}
use Rattle.page_lists.proofs.Counts.{count-append}
use Rattle.cell_reader.specs.declared.shapes.Kind.{Kind}
use Rattle.raw_schema.specs.declared.rows.SchemaKind.{SchemaKind}
use Rattle.raw_schema.specs.declared.rows.SchemaKind.TheVariants as sorts
use Rattle.raw_schema.specs.declared.rows.SchemaRow.{SchemaRow}
use Rattle.schema_texts.specs.Readings.{AreReadings, IsReadingIn, is_table, tables_from}
use Rattle.schema_texts.specs.declared.readings.TableReading.{TableReading}
use Rattle.use_order.specs.Order.{index_trees, is_index, table_tree}
use Rattle.clear_paths.specs.Clear.{root_number, roots_of}
use Rattle.clear_paths.proofs.Moments.{wanted_roots}

-- the root of a row, if it is there
abbrev root_in : Option SchemaRow → List ℕ
root_in None = []
root_in (Some row) = root_number row.root

abbrev roots_at : List SchemaRow → List ℕ → List ℕ
roots_at rows is = flat_map (λ (i : ℕ). root_in (slice_get rows i)) is

-- the roots of readings are those of their rows
reading_roots : (kinds : List (Option Kind)) (pages : ℕ) (rows : List SchemaRow) (rs : List TableReading)
    → AllByRecursion (IsReadingIn kinds pages rows) rs
    → wanted_roots (map table_tree rs) ≡ roots_at rows (map (λ (r : TableReading). r.row) rs)
reading_roots kinds pages rows [] are = refl
reading_roots kinds pages rows (r ∷ rs) are =
    let same : root_number r.root ≡ root_in (slice_get rows r.row) = ap root_number are.0.root_is ∙ ap root_in (sym are.0.row_is) in
    ap (λ (first : List ℕ). first ++ wanted_roots (map table_tree rs)) same
    ∙ ap (λ (rest : List ℕ). root_in (slice_get rows r.row) ++ rest) (reading_roots kinds pages rows rs are.1)

-- the rows from row i on, of which each is of one sort
SortsApart : List SchemaRow → ℕ → List SchemaRow → ℕ → Type 0
SortsApart all i rows q = count q (roots_at all (tables_from i rows)) + count q (wanted_roots (index_trees i rows)) ≤ count q (roots_of rows)

by_sort : (all : List SchemaRow) (i : ℕ) (row : SchemaRow) (rows : List SchemaRow) (q : ℕ) (k : SchemaKind) → row.kind ≡ k
    → root_in (slice_get all i) ≡ root_number row.root → SortsApart all (i + 1) rows q → SortsApart all i (row ∷ rows) q
unfolding SortsApart
by_sort all i row rows q sorts.Table e here rest =
    rw e (omega (
      arith,
      rest,
      ap (count q) here,
      count-append q (root_number row.root) (roots_of rows),
      count-append q (root_in (slice_get all i)) (roots_at all (tables_from (i + 1) rows)),
    ))
by_sort all i row rows q sorts.Index e here rest =
    rw e (omega (
      arith,
      rest,
      count-append q (root_number row.root) (roots_of rows),
      count-append q (root_number row.root) (wanted_roots (index_trees (i + 1) rows)),
    ))
by_sort all i row rows q sorts.View e here rest = rw e (omega (arith, rest, count-append q (root_number row.root) (roots_of rows)))
by_sort all i row rows q sorts.Trigger e here rest = rw e (omega (arith, rest, count-append q (root_number row.root) (roots_of rows)))

sorts_apart : (all : List SchemaRow) (i : ℕ) (rows : List SchemaRow) (q : ℕ) → ((j : ℕ) → slice_get rows j ≡ slice_get all (i + j))
    → SortsApart all i rows q
unfolding SortsApart
sorts_apart all i [] q same = omega arith
sorts_apart all i (row ∷ rows) q same =
    let at : i + 0 ≡ i = omega arith in
    let here : root_in (slice_get all i) ≡ root_number row.root =
    ap (λ (n : ℕ). root_in (slice_get all n)) (sym at) ∙ sym (ap root_in (same 0)) in
    by_sort all i row rows q row.kind refl here
    (sorts_apart all (i + 1) rows q (λ j. let on : i + suc j ≡ i + 1 + j = omega arith in same (suc j) ∙ ap (slice_get all) on))

pub roots_are_part : (kinds : List (Option Kind)) (pages : ℕ) (rows : List SchemaRow) (rs : List TableReading) (q : ℕ)
    → AreReadings kinds pages rows rs
    → count q (wanted_roots (map table_tree rs)) + count q (wanted_roots (index_trees 0 rows)) ≤ count q (roots_of rows)
unfolding SortsApart
roots_are_part kinds pages rows rs q are =
    let tables : wanted_roots (map table_tree rs) ≡ roots_at rows (tables_from 0 rows) =
    reading_roots kinds pages rows rs are.readings ∙ ap (roots_at rows) are.numbers in
    omega (arith, ap (count q) tables, sorts_apart rows 0 rows q (λ j. let at : j ≡ 0 + j = omega arith in ap (slice_get rows) at))
