-- The parts of the order of use, put together.
use Rattle.std.proofs.Common.{◌≡◌, ◌≤◌, ◌++◌, ℕ, Option, Some, None, List, map, length, refl, ◌∙◌, ap, subst, arith}
use Rattle.std.specs.Prelude.{IfSome}
use Rattle.std.specs.List.{concat, flat_map}
use Rattle.std.proofs.lemmas.List.FromFn.{length-range_with_len}
use Rattle.std.proofs.lemmas.Option.{IfSome_then}
use Rattle.page_access.specs.Files.{file_of}
use Rattle.page_access.specs.Pages.{File}
use Rattle.page_access.specs.declared.geometry.Geometry.{Geometry}
use Rattle.page_lists.specs.Lists.{IsPartOf, minus}
use Rattle.page_lists.specs.Table.{IsPartition, Moves, Table, all_moved, fresh, unused}
use Rattle.page_lists.proofs.Counts.{length-minus}
use Rattle.page_lists.proofs.Moves.{IsPartition-fresh, fresh_pages}
use Rattle.page_lists.proofs.Uses.{Moves-unused, count-list_at, unused-all_moved}
use Rattle.cell_reader.specs.declared.shapes.Kind.{Kind}
use Rattle.overflow_chain.specs.declared.TheConstants.{OVERFLOW_LIST}
use Rattle.page_walk.specs.Cells.{Outcome, row_of}
use Rattle.page_walk.specs.Turns.{chains_on}
use Rattle.page_walk.specs.Walk.{kinds_of}
use Rattle.raw_schema.specs.Schema.{SchemaMoves, after_schema, bad_rows, schema_notes, schema_pages, schema_rows}
use Rattle.raw_schema.specs.declared.TheConstants.{SCHEMA_LIST}
use Rattle.raw_schema.specs.declared.reading.RawSchema.{RawSchema}
use Rattle.raw_schema.specs.declared.rows.SchemaRow.{SchemaRow}
use Rattle.tree_uses.specs.Trees.{Tree, chains_in, pages_in, turns_in, walks}
use Rattle.tree_uses.proofs.Parts.{part_then}
use Rattle.schema_texts.specs.Readings.{AreReadings}
use Rattle.schema_texts.specs.declared.readings.TableReading.{TableReading}
use Rattle.use_order.specs.Order.{AreInOrder, IsSchema, UsesMove, after_uses, behind_schema, behind_uses, index_trees, table_tree}
use Rattle.use_order.specs.declared.TheConstants.{INDEX_LIST, TABLE_LIST}

-- there are no more unused pages than pages
pub few_unused : (t : Table) → IsPartition t → length (unused t) ≤ t.pages
few_unused t each =
    let all : List ℕ = concat (fresh t.pages 0).lists in
    let part : IsPartOf (unused t) all = λ q. omega (arith, count-list_at q 0 t.lists, each q, IsPartition-fresh t.pages 0 q) in
    omega (arith, length-minus all (unused t) part, ap length (fresh_pages t.pages 0), length-range_with_len 1 t.pages)

pub few_part : (t : Table) (ps : List ℕ) → IsPartition t → IsPartOf ps (unused t) → length ps ≤ t.pages
few_part t ps each part = omega (arith, few_unused t each, length-minus (unused t) ps part)

-- pages that moved to one list, and to another
pub moved_once : (l : ℕ) (a b : Table) → 1 ≤ l → Moves l a b → UsesMove a b
moved_once l a b over moves = record { same_pages = moves.same_pages; same_lists = moves.same_lists; left = Moves-unused l a b over moves }

pub moved_more : (a b c : Table) → UsesMove a b → UsesMove b c → UsesMove a c
moved_more a b c first next = record {
  same_pages = next.same_pages ∙ first.same_pages;
  same_lists = next.same_lists ∙ first.same_lists;
  left = λ q. omega (arith, first.left q, next.left q);
}

pub schema_moved : (a b : Table) → SchemaMoves a b → UsesMove a b
schema_moved a b moves =
    moved_more a moves.between b (moved_once SCHEMA_LIST a moves.between (omega arith) moves.tree)
    (moved_once OVERFLOW_LIST moves.between b (omega arith) moves.chains)

-- the pages of trees, and of more, are among those that were unused before
pub trees_part : (t0 t1 t2 : Table) (tables indexes : List Tree) → UsesMove t0 t1 → t2 ≡ all_moved (pages_in tables) TABLE_LIST t1
    → IsPartOf (pages_in tables) (unused t1) → IsPartOf (pages_in indexes) (unused t2)
    → IsPartOf (pages_in tables ++ pages_in indexes) (unused t0)
trees_part t0 t1 t2 tables indexes moves moved first next =
    let both : IsPartOf (pages_in tables ++ pages_in indexes) (unused t1) =
    part_then TABLE_LIST t1 t2 (pages_in tables) (pages_in indexes) (omega arith) moved first next in
    λ q. omega (arith, both q, moves.left q)

-- what holds of told bytes
pub at_told : (P : List ℕ → Type 0) (o o' : Option (List ℕ)) (all : List ℕ) → o' ≡ o → o ≡ Some all → IfSome o' P → P all
at_told P o o' all same is holds = subst (λ (x : Option (List ℕ)). IfSome x P) (same ∙ is) holds

unused_behind : (f : File) (t : Table) → unused (after_schema f t) ≡ behind_schema f (unused t)
unfolding after_schema
unused_behind f t =
    unused-all_moved (chains_on f (schema_pages f (unused t)) (minus (unused t) (schema_pages f (unused t)))) OVERFLOW_LIST
    (all_moved (schema_pages f (unused t)) SCHEMA_LIST t) (omega arith)
    ∙ ap (λ (u : List ℕ). minus u (chains_on f (schema_pages f (unused t)) (minus (unused t) (schema_pages f (unused t)))))
    (unused-all_moved (schema_pages f (unused t)) SCHEMA_LIST t (omega arith))

pub in_order : (o o1 o2 o3 : Option (List ℕ)) (geo : Geometry) (t0 t1 t2 t3 : Table) (survey : List (Option Kind)) (rows : List SchemaRow)
    (rs : List TableReading) (tables indexes : List Tree) (turns : List (List (ℕ × List Outcome))) → o1 ≡ o → o2 ≡ o → o3 ≡ o
    → IfSome o (λ all. survey ≡ kinds_of (file_of all geo)) → IfSome o (λ all. rows ≡ schema_rows (file_of all geo) (unused t0))
    → IfSome o (λ all. t1 ≡ after_schema (file_of all geo) t0) → AreReadings survey geo.pages rows rs
    → IfSome o1 (λ all. tables ≡ walks (file_of all geo) TABLE_LIST (map table_tree rs) (unused t1)) → t2 ≡ all_moved (pages_in tables) TABLE_LIST t1
    → IfSome o2 (λ all. indexes ≡ walks (file_of all geo) INDEX_LIST (index_trees 0 rows) (unused t2)) → t3 ≡ all_moved (pages_in indexes) INDEX_LIST t2
    → IfSome o3 (λ all. turns ≡ turns_in (file_of all geo) tables (unused t3))
    → IfSome o (λ all. AreInOrder (file_of all geo) (unused t0) rows rs tables indexes turns)
in_order None o1 o2 o3 geo t0 t1 t2 t3 survey rows rs tables indexes turns e1 e2 e3 kinds is after readings v1 m1 v2 m2 v3 = tt
in_order (Some all) o1 o2 o3 geo t0 t1 t2 t3 survey rows rs tables indexes turns e1 e2 e3 kinds is after readings v1 m1 v2 m2 v3 =
    let f : File = file_of all geo in
    let first : unused t1 ≡ behind_schema f (unused t0) = ap unused after ∙ unused_behind f t0 in
    let second : unused t2 ≡ minus (behind_schema f (unused t0)) (pages_in tables) =
    ap unused m1 ∙ unused-all_moved (pages_in tables) TABLE_LIST t1 (omega arith) ∙ ap (λ (u : List ℕ). minus u (pages_in tables)) first in
    let third : unused t3 ≡ minus (minus (behind_schema f (unused t0)) (pages_in tables)) (pages_in indexes) =
    ap unused m2 ∙ unused-all_moved (pages_in indexes) INDEX_LIST t2 (omega arith) ∙ ap (λ (u : List ℕ). minus u (pages_in indexes)) second in
    record {
      rows_are = is;
      readings = subst (λ (ks : List (Option Kind)). AreReadings ks geo.pages rows rs) kinds readings;
      tables_are = at_told (λ bytes. tables ≡ walks (file_of bytes geo) TABLE_LIST (map table_tree rs) (unused t1)) (Some all) o1 all e1 refl v1
          ∙ ap (walks f TABLE_LIST (map table_tree rs)) first;
      indexes_are = at_told (λ bytes. indexes ≡ walks (file_of bytes geo) INDEX_LIST (index_trees 0 rows) (unused t2)) (Some all) o2 all e2 refl v2
          ∙ ap (walks f INDEX_LIST (index_trees 0 rows)) second;
      turns_are = at_told (λ bytes. turns ≡ turns_in (file_of bytes geo) tables (unused t3)) (Some all) o3 all e3 refl v3
          ∙ ap (turns_in f tables) third;
    }

-- the schema is that of the file
pub schema_is : (o : Option (List ℕ)) (geo : Geometry) (u : List ℕ) (s : RawSchema) → IfSome o (λ all. s.rows.items ≡ schema_rows (file_of all geo) u)
    → IfSome o (λ all. map row_of s.bad.items ≡ bad_rows (file_of all geo) u) → IfSome o (λ all. s.pages.items ≡ schema_pages (file_of all geo) u)
    → IfSome o (λ all. s.notes.items ≡ schema_notes (file_of all geo) u) → IfSome o (λ all. IsSchema (file_of all geo) u s)
schema_is None geo u s rows bad pages notes = tt
schema_is (Some all) geo u s rows bad pages notes = record { rows_are = rows; bad_are = bad; pages_are = pages; notes_are = notes }

-- the pages with a use stand in the lists of their uses
pub table_is : (o : Option (List ℕ)) (geo : Geometry) (t0 t1 t2 t3 t4 : Table) (tables indexes : List Tree) (turns : List (List (ℕ × List Outcome)))
    → IfSome o (λ all. t1 ≡ after_schema (file_of all geo) t0) → t2 ≡ all_moved (pages_in tables) TABLE_LIST t1
    → t3 ≡ all_moved (pages_in indexes) INDEX_LIST t2 → t4 ≡ all_moved (flat_map chains_in turns) OVERFLOW_LIST t3
    → IfSome o (λ all. t4 ≡ after_uses (file_of all geo) t0 tables indexes turns)
table_is o geo t0 t1 t2 t3 t4 tables indexes turns schema m2 m3 m4 =
    IfSome_then o {P = λ all. t1 ≡ after_schema (file_of all geo) t0} {Q = λ all. t4 ≡ after_uses (file_of all geo) t0 tables indexes turns}
    schema
    (λ all e. m4 ∙ ap (all_moved (flat_map chains_in turns) OVERFLOW_LIST)
    (m3 ∙ ap (all_moved (pages_in indexes) INDEX_LIST) (m2 ∙ ap (all_moved (pages_in tables) TABLE_LIST) e)))

-- what is unused behind all these
pub unused_after : (f : File) (t : Table) (tables indexes : List Tree) (turns : List (List (ℕ × List Outcome)))
    → unused (after_uses f t tables indexes turns) ≡ behind_uses f (unused t) tables indexes turns
unused_after f t tables indexes turns =
    let t1 : Table = after_schema f t in
    let t2 : Table = all_moved (pages_in tables) TABLE_LIST t1 in
    let t3 : Table = all_moved (pages_in indexes) INDEX_LIST t2 in
    unused-all_moved (flat_map chains_in turns) OVERFLOW_LIST t3 (omega arith)
    ∙ ap (λ (u : List ℕ). minus u (flat_map chains_in turns)) (unused-all_moved (pages_in indexes) INDEX_LIST t2 (omega arith)
    ∙ ap (λ (u : List ℕ). minus u (pages_in indexes)) (unused-all_moved (pages_in tables) TABLE_LIST t1 (omega arith)
    ∙ ap (λ (u : List ℕ). minus u (pages_in tables)) (unused_behind f t)))
