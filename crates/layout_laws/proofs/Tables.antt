-- Each table that is written is one of the file, with the automatic index of each of its keys.
use Rattle.std.proofs.Common.{◌≡◌, ℕ, ◌+◌, true, false, List, [], ◌∷◌, ◌++◌, length, map, refl, sym, ap, ◌∙◌, subst, arith}
use Rattle.std.specs.List.{AllByRecursion, IsDistinct, concat}
use Rattle.std.specs.Str.{str_to_ascii_lowercase}
use Rattle.std.proofs.lemmas.List.{append_assoc, length-append}
use Rattle.std.proofs.lemmas.List.Sums.{sum_by-append, sum_by-cons}
use Rattle.page_access.specs.Pages.{File}
use Rattle.page_lists.specs.Lists.{count}
use Rattle.page_lists.proofs.Counts.{count-append}
use Rattle.raw_schema.specs.declared.rows.SchemaRow.{SchemaRow}
use Rattle.table_shape.specs.declared.rows.OutTable.{OutTable}
use Rattle.table_shape.specs.Keys.{KeyParts}
use Rattle.table_shape.specs.Names.{same_name}
use Rattle.table_shape.specs.Seen.{shape_seen}
use Rattle.tree_forms.specs.Tree.{entries}
use Rattle.tree_writer.specs.Numbers.{number_of}
use Rattle.tree_writer.proofs.Raising.{all_append}
use Rattle.written_trees.specs.Trees.{IsTreeOf, numbers}
use Rattle.written_trees.proofs.Numbers.{count-numbers}
use Rattle.db_builder.specs.declared.databases.OutDb.{OutDb}
use Rattle.db_builder.specs.Layout.{lock_of, pages_of_trees, root_of}
use Rattle.db_builder.specs.Plannable.{IsKeyPlannable, IsPlannable}
use Rattle.db_builder.specs.Trees.{Tree, key_tree, keys_in, rows_in, table_tree, trees_of}
use Rattle.db_builder.specs.Valid.{IsTable}
use Rattle.well_formed.specs.Indexes.{HaveIndexes}
use Rattle.well_formed.specs.Spells.{all_keys}
use Rattle.well_formed.specs.Tables as file
use Rattle.layout_laws.specs.Written.{HasTypedRows, table_of}
use Rattle.layout_laws.proofs.Fit.{key_good, rows_good}
use Rattle.layout_laws.proofs.KeyNumbers.{keys_small}
use Rattle.layout_laws.proofs.Keys.{Absent, AreGood, NoneBefore, keys_made, keys_rise, other_table, same_bytes}
use Rattle.layout_laws.proofs.Reading.{IsGood, rows_back, tree_stored}
use Rattle.layout_laws.proofs.Schema.{key_rows, keys_rows, past_rows, past_table, stored_rows, table_row}
use Rattle.layout_laws.proofs.Standing.{TreesStand, at_tree, count_in, file_of}

-- ---- trees one behind another

trees_apart : (f : File) (before : ℕ) (xs ys : List Tree) → TreesStand f before (xs ++ ys) → TreesStand f before xs × TreesStand f (before + pages_of_trees f.size xs) ys
trees_apart f before [] ys s = (tt, subst (λ n. TreesStand f n ys) (omega arith) s)
trees_apart f before (x ∷ xs) ys s =
    let parts = trees_apart f (before + count_in f.size x) xs ys s.1 in
    ((s.0, parts.0), subst (λ n. TreesStand f n ys) (omega (arith, sum_by-cons (count_in f.size) x xs)) parts.1)

-- ---- one table

table_is : (size : ℕ) (db : OutDb) (before : ℕ) (t : OutTable) (pages : List ℕ) → IsTable t → AllByRecursion (λ row. IsGood row.fields) (rows_in t)
    → (tree : IsTreeOf (file_of size db) (table_tree t).kind (root_of size (at_tree size before (table_tree t))) (table_tree t).entries pages)
    → file.IsTable (file_of size db) (table_row size before t) (table_of t) tree.used
table_is size db before t pages is good tree = record {
  text = refl;
  name = refl;
  shape = shape_seen t.shape;
  shape_is = is.text;
  shape_name = is.name;
  no_real = is.no_real;
  root = root_of size (at_tree size before (table_tree t));
  root_is = refl;
  cells = entries tree.items;
  stored = tree_stored (file_of size db) _ _ _ _ tree;
  rows = rows_back (file_of size db) (entries tree.items) (rows_in t) tree.holds good;
  are = is.rows;
}

-- ---- names of tables

pub not_named : (a b : List ℕ) → same_name a b ≡ false → a ≡ b → ⊥
not_named a b other same =
    let all : same_name a a ≡ true = same_bytes (str_to_ascii_lowercase a) in
    let no_more : same_name a a ≡ false = subst (λ (c : List ℕ). same_name a c ≡ false) (sym same) other in
    cc

-- the rows of the keys of tables with other names
others_absent : (name : List ℕ) (n size before : ℕ) (ts : List OutTable) → AllByRecursion (λ (u : List ℕ). same_name name u ≡ false) (map (λ (t : OutTable). t.name) ts)
    → Absent name n (key_rows size before ts)
others_absent name n size before [] apart = tt
others_absent name n size before (t ∷ ts) apart =
    all_append _ (keys_rows size (past_rows size before t) t (keys_in t).keys) (key_rows size (past_table size before t) ts)
    (other_table name n size (past_rows size before t) t (keys_in t).keys (λ same. not_named name t.name apart.0 (sym same)))
    (others_absent name n size (past_table size before t) ts apart.1)

-- no row before is one of these tables' keys
abbrev NoneSoFar : List SchemaRow → List OutTable → Type 0
NoneSoFar rows ts = AllByRecursion (λ (t : OutTable). (n : ℕ) → Absent t.name n rows) ts

one_so_far : (size before : ℕ) (t : OutTable) (rows : List SchemaRow) (ts : List OutTable) → AllByRecursion (λ (u : List ℕ). same_name t.name u ≡ false) (map (λ (u : OutTable). u.name) ts)
    → NoneSoFar rows ts → NoneSoFar (rows ++ keys_rows size before t (keys_in t).keys) ts
one_so_far size before t rows [] apart none = tt
one_so_far size before t rows (u ∷ ts) apart none = (
  λ n. all_append _ rows (keys_rows size before t (keys_in t).keys) (none.0 n) (other_table u.name n size before t (keys_in t).keys (λ same. not_named t.name u.name apart.0 same)),
  one_so_far size before t rows ts apart.1 none.1,
)

none_for_keys : (t : OutTable) (rows : List SchemaRow) (keys : List KeyParts) → ((n : ℕ) → Absent t.name n rows) → NoneBefore t rows keys
none_for_keys t rows [] none = tt
none_for_keys t rows (key ∷ keys) none = (none key.number, none_for_keys t rows keys none)

keys_good : (t : OutTable) (keys : List KeyParts) → HasTypedRows t → AllByRecursion (IsKeyPlannable t) keys → AreGood t keys
keys_good t [] typed can = tt
keys_good t (key ∷ keys) typed can = (key_good t key typed can.0, keys_good t keys typed can.1)

-- ---- all tables

concat-count : (q : ℕ) (xs ys : List (List ℕ)) → count q (concat (xs ++ ys)) ≡ count q (concat xs) + count q (concat ys)
concat-count q [] ys = omega arith
concat-count q (x ∷ xs) ys = omega (arith, count-append q x (concat (xs ++ ys)), count-append q x (concat xs), concat-count q xs ys)

-- the tables and their automatic indexes, with the pages of each: together they are those behind `before`
pub record TablesMade (size : ℕ) (db : OutDb) (rows : List SchemaRow) (before : ℕ) (ts : List OutTable) : Type 0 where
  pub tables_used : List (List ℕ)
  pub tables : file.AreTables (file_of size db) (stored_rows size before ts) (map table_of ts) tables_used
  pub keys_used : List (List (List ℕ))
  pub keys : HaveIndexes (file_of size db) rows (map table_of ts) keys_used
  pub many : length (key_rows size before ts) ≡ length (all_keys keys_used)
  pub same : (q : ℕ) → count q (concat tables_used) + count q (concat (all_keys keys_used))
      ≡ count q (numbers (number_of 2 (lock_of size)) before (pages_of_trees size (trees_of ts)))

pub tables_made : (size : ℕ) (db : OutDb) (all front : List SchemaRow) (before : ℕ) (ts : List OutTable) → all ≡ front ++ key_rows size before ts → NoneSoFar front ts
    → IsDistinct same_name (map (λ (t : OutTable). t.name) ts) → AllByRecursion IsTable ts → AllByRecursion HasTypedRows ts → AllByRecursion IsPlannable ts
    → TreesStand (file_of size db) before (trees_of ts) → TablesMade size db all before ts
unfolding IsDistinct
tables_made size db all front before [] split none apart is typed can stand =
    record { tables_used = []; tables = tt; keys_used = []; keys = tt; many = refl; same = λ q. refl }
tables_made size db all front before (t ∷ ts) split none apart is typed can stand =
    let f = file_of size db in
    let number = number_of 2 (lock_of size) in
    let s = shape_seen t.shape in
    let past = past_rows size before t in
    let behind = past_table size before t in
    let here = keys_rows size past t (keys_in t).keys in
    let rest = key_rows size behind ts in
    let tree = stand.0 in
    let parts = trees_apart f past (map (key_tree t) (keys_in t).keys) (trees_of ts) stand.1 in
    let keys = keys_made size db all front rest t past 0 (keys_in t).keys split (none_for_keys t front (keys_in t).keys none.0)
    (λ n. others_absent t.name n size behind ts apart.0)
    (keys_rise s 0 s.keys t.shape.valid.rising (keys_small t is.0 can.0.label)) parts.0 (keys_good t (keys_in t).keys typed.0 can.0.keys) in
    let more = tables_made size db all (front ++ here) behind ts (split ∙ sym (append_assoc front here rest)) (one_so_far size past t front ts apart.0 none.1)
    apart.1 is.1 typed.1 can.1 parts.1 in
    record {
      tables_used = tree.used ∷ more.tables_used;
      tables = (table_is size db before t _ is.0 (rows_good t typed.0 can.0) tree, more.tables);
      keys_used = keys.used ∷ more.keys_used;
      keys = (record { shape = s; shape_is = is.0.text; indexes = keys.are }, more.keys);
      many = omega (arith, length-append here rest, length-append keys.used (all_keys more.keys_used), keys.many, more.many);
      same = λ q.
          let own = map (key_tree t) (keys_in t).keys in
          let sums = ap (λ n. count q (numbers number before n)) (sum_by-cons (count_in size) (table_tree t) (own ++ trees_of ts)) in
          let both = ap (λ n. count q (numbers number past n)) (sum_by-append (count_in size) own (trees_of ts)) in
          omega (
            arith,
            count-append q tree.used (concat more.tables_used),
            concat-count q keys.used (all_keys more.keys_used),
            tree.same q,
            keys.same q,
            more.same q,
            sums,
            both,
            count-numbers number q before (count_in size (table_tree t)) (pages_of_trees size (own ++ trees_of ts)),
            count-numbers number q past (pages_of_trees size own) (pages_of_trees size (trees_of ts)),
          );
    }
