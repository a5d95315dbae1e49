-- A tree that is planned, and the entries of an index in the order of its key.
use Rattle.std.proofs.Common.{◌≡◌, ◌≤◌, ◌<◌, ◌+◌, ◌-◌, ◌^◌, ℕ, List, [], ◌∷◌, map, sym, ap, ◌∙◌, refl, subst, arith}
use Rattle.cell_reader.specs.declared.shapes.Kind.{Kind}
use Rattle.record_core.specs.declared.values.Value.{Value}
use Rattle.record_core.specs.Shortest.{record_bytes}
use Rattle.table_shape.specs.declared.keys.KeyPart.{KeyPart}
use Rattle.table_shape.specs.declared.rows.OutRow.{OutRow}
use Rattle.table_shape.specs.declared.rows.OutTable.{OutTable}
use Rattle.table_shape.specs.Entries.{entry_parts, in_order}
use Rattle.table_shape.specs.Keys.{KeyParts, StoredRow, key_of, values_of}
use Rattle.table_shape.specs.Seen.{row_seen}
use Rattle.tree_writer.specs.declared.plans.TreePlan.{TreePlan}
use Rattle.tree_writer.specs.Entry.{Entry, HaveNoRowids}
use Rattle.tree_writer.specs.Levels.{tree_line}
use Rattle.tree_writer.specs.Numbers.{number_of}
use Rattle.tree_writer.specs.Trees.{IsTreePlan, tree_count}
use Rattle.db_builder.specs.declared.plans.MadeTree.{MadeTree}
use Rattle.db_builder.specs.declared.planners.Planner.{Planner}
use Rattle.db_builder.specs.Layout.{lock_of, row_values, schema_record, start_of}
use Rattle.db_builder.specs.Prepared.{CanRead, HaveAtMost, planned_entries, rows_at}
use Rattle.db_builder.specs.SoFar.{HasPages, IsMade, next_placed}
use Rattle.db_builder.specs.Trees.{Tree, index_entry, key_tree, keys_in, rows_in}
use Rattle.db_builder.specs.Views.{index_entries, row_at}
use Rattle.tree_writer.proofs.Adding.{map_map}
use Rattle.db_builder.proofs.Roots.{root_within}

-- the entries in the order of rows are those of the key
pub index_same : (t : OutTable) (key : KeyParts) (parts : List KeyPart) (order : List ℕ) → parts ≡ entry_parts (keys_in t) key
    → map (row_at t.rows.items) order ≡ map (λ e. e.1) (in_order (key_of parts) (rows_in t)) → index_entries parts t.rows.items order ≡ (key_tree t key).entries
index_same t key parts order ps same =
    let by_row : StoredRow → Entry = λ r. index_entry (values_of parts r) in
    let rows = in_order (key_of parts) (rows_in t) in
    sym (map_map by_row (row_at t.rows.items) order) ∙ ap (map by_row) same ∙ map_map by_row (λ (e : List Value × StoredRow). e.1) rows
    ∙ sym (map_map index_entry (λ (e : List Value × StoredRow). values_of parts e.1) rows)
    ∙ ap (λ (qs : List KeyPart). map index_entry (map (λ (e : List Value × StoredRow). values_of qs e.1) (in_order (key_of qs) (rows_in t)))) ps

-- the same, told by the vectors of the program
pub index_told : (t : OutTable) (key : KeyParts) (p1 p2 : List KeyPart) (rows : List OutRow) (os o2 : List ℕ) → p1 ≡ entry_parts (keys_in t) key → p2 ≡ entry_parts (keys_in t) key
    → rows ≡ t.rows.items → o2 ≡ os → map (row_at rows) os ≡ map (λ e. e.1) (in_order (key_of p1) (map row_seen rows)) → index_entries p2 rows o2 ≡ (key_tree t key).entries
index_told t key p1 p2 rows os o2 e1 e2 er eo h =
    ap (λ ps. index_entries ps rows o2) (e2 ∙ sym e1) ∙ ap (λ xs. index_entries p1 rows xs) eo ∙ ap (λ rs. index_entries p1 rs os) er
    ∙ index_same t key p1 os e1 (subst (λ (rs : List OutRow). map (row_at rs) os ≡ map (λ e. e.1) (in_order (key_of p1) (map row_seen rs))) er h)

-- a root has a number
pub root_small : (size : ℕ) (kind : Kind) (es : List Entry) (plan : TreePlan) (root start : ℕ) → IsTreePlan size kind es plan → root ≡ (tree_line size kind 0 es).right
    → start + plan.count < 2 ^ 32 - 1 → start + root < 2 ^ 32 - 1
root_small size kind es plan root start is r most = omega (arith, is.count, r, most, root_within size kind es)

-- a tree's pages have numbers behind those of the others
pub start_most : (p : Planner) (tree : Tree) (kind : Kind) (es : List Entry) (plan : TreePlan) (start : ℕ) → HasPages p tree → kind ≡ tree.kind → es ≡ tree.entries
    → IsTreePlan p.page_size kind es plan → start ≤ p.before + 3 → start + plan.count < 2 ^ 32 - 1
start_most p tree kind es plan start has k e is most =
    omega (arith, has, most, is.count, ap (λ x. tree_count p.page_size x es) k, ap (tree_count p.page_size tree.kind) e)

pub no_rowids : (parts : List KeyPart) (rows : List OutRow) (order : List ℕ) → HaveNoRowids (index_entries parts rows order)
no_rowids parts rows [] = tt
no_rowids parts rows (j ∷ js) = (refl, no_rowids parts rows js)

-- the record of a tree's row in the schema
pub record_is_row : (p : Planner) (tree : Tree) (bytes : List ℕ) (values : List Value) (start lock index root : ℕ) → start ≡ start_of p.page_size p.before → lock ≡ lock_of p.page_size
    → index ≡ (tree_line p.page_size tree.kind 0 tree.entries).right → root ≡ number_of start lock index
    → values ≡ row_values tree.label root → bytes ≡ record_bytes values → bytes ≡ schema_record p.page_size (next_placed p tree)
record_is_row p tree bytes values start lock index root s l i r v b =
    let size = p.page_size in
    let right = (tree_line size tree.kind 0 tree.entries).right in
    b ∙ ap record_bytes v ∙ ap (λ n. record_bytes (row_values tree.label n))
    (r ∙ ap (λ n. number_of n lock index) s ∙ ap (λ n. number_of (start_of size p.before) n index) l ∙ ap (λ n. number_of (start_of size p.before) (lock_of size) n) i)

-- a tree is planned behind the others
pub made_is : (p : Planner) (number : ℕ) (rows : List OutRow) (tree : Tree) (m : MadeTree) (es : List Entry) → m.tree.table ≡ number → CanRead rows m.tree.index
    → planned_entries rows m.tree.index ≡ es → es ≡ tree.entries → HaveAtMost m.longest es → IsTreePlan p.page_size tree.kind es m.tree.plan
    → m.tree.start ≡ start_of p.page_size p.before → 1 ≤ m.tree.start → m.tree.start + m.tree.plan.count < 2 ^ 32 - 1
    → m.tree.record ≡ schema_record p.page_size (next_placed p tree) → IsMade p number rows tree m
made_is p number rows tree m es table can entries same short plan start least most row = record {
  planned = λ tables lt at. record {
    there = omega (arith, table, lt);
    can = subst (λ (rs : List OutRow). CanRead rs m.tree.index) (sym at ∙ ap (rows_at tables) (sym table)) can;
    entries = ap (λ (rs : List OutRow). planned_entries rs m.tree.index) (ap (rows_at tables) table ∙ at) ∙ entries ∙ same;
    short = subst (HaveAtMost m.longest) same short;
    plan = subst (λ (xs : List Entry). IsTreePlan p.page_size tree.kind xs m.tree.plan) same plan;
    start = start;
    least = omega (arith, start, least);
    most = omega (arith, start, most);
    row = row;
  };
  count = (subst (λ (xs : List Entry). IsTreePlan p.page_size tree.kind xs m.tree.plan) same plan).count;
}
