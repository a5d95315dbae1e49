-- The database can be written, and its file is small.
use Rattle.std.proofs.Common.{◌≡◌, refl, sym, subst, ap, ◌∙◌, arith, ℕ, ◌+◌, ◌*◌, ◌^◌, ◌≤◌, false, not, List, [], ◌∷◌, ◌++◌, codes, map, sum_by, is_some}
use Rattle.std.specs.List.{AllByRecursion, IsDistinct}
use Rattle.std.proofs.lemmas.List.Sums.{sum_by-cons}
use Rattle.create_reader.specs.Outcome.{IsTableText}
use Rattle.cell_reader.specs.declared.shapes.Kind.TheVariants.{Index}
use Rattle.record_core.specs.declared.values.Value.TheVariants.{Null, Text}
use Rattle.table_shape.specs.declared.rows.OutTable.{OutTable}
use Rattle.table_shape.specs.Entries.{entries_of, entry_parts}
use Rattle.table_shape.specs.Keys.{AreRows, KeyParts, StoredRow, keys_of, values_of}
use Rattle.table_shape.specs.Names.{begins_as_automatic, index_name, is_reserved, is_schema_name, same_name}
use Rattle.table_shape.specs.Shape.{Shape, has_real_key}
use Rattle.db_builder.specs.declared.databases.OutDb.{OutDb}
use Rattle.db_builder.specs.Layout.{last_page}
use Rattle.db_builder.specs.Load.{label_load, record_load, table_load}
use Rattle.db_builder.specs.Trees.{Tree, index_entry, kind_of, row_entry, rows_in, trees_of}
use Rattle.db_builder.specs.Valid.{IsTable}
use Rattle.trial_file.specs.Laws.{IsAlwaysSmall, IsAlwaysValid}
use Rattle.trial_file.specs.Rows.{rows_of}
use Rattle.trial_file.specs.Trial.{IsTrial, IsTrialTable, table_shape, table_text}
use Rattle.trial_file.proofs.Lengths.{index_label, index_label_short, index_short, row_short, sum_most, table_label_short}
use Rattle.trial_file.proofs.Pages.{index_key, pages_few, pages_some, trial_trees}
use Rattle.trial_file.proofs.Fit.{have_rowids, keys, rows_are}
use Rattle.trial_file.proofs.Text.{is_text}

-- ---- it can be written

free_name : is_reserved (codes "t") ≡ false
unfolding is_schema_name begins_as_automatic
free_name = refl

table_valid : (n : ℕ) (t : OutTable) → n ≤ 100000 → IsTrialTable n t → IsTable t
table_valid n t few is =
    let with_text : IsTableText t.text table_shape = subst (λ (text : List ℕ). IsTableText text table_shape) (sym is.text) is_text in
    let rowids : AllByRecursion (λ (row : StoredRow). is_some row.rowid ≡ not table_shape.without_rowid) (rows_in t) =
    subst (AllByRecursion (λ (row : StoredRow). is_some row.rowid ≡ not table_shape.without_rowid)) (sym is.rows) (have_rowids 1 n) in
    let rows : AreRows (keys_of table_shape) (rows_in t) = subst (AreRows (keys_of table_shape)) (sym is.rows) (rows_are n (omega (arith, few))) in
    record {
      text = subst (IsTableText t.text) (sym is.shape) with_text;
      name = ap (λ (s : Shape). s.name) is.shape ∙ sym is.name;
      unreserved = ap is_reserved is.name ∙ free_name;
      no_real = ap has_real_key is.shape;
      rowids = subst (λ (s : Shape). AllByRecursion (λ (row : StoredRow). is_some row.rowid ≡ not s.without_rowid) (rows_in t)) (sym is.shape) rowids;
      rows = subst (λ (s : Shape). AreRows (keys_of s) (rows_in t)) (sym is.shape) rows;
    }

alone : (name : List ℕ) → IsDistinct same_name (name ∷ [])
unfolding IsDistinct
alone name = (tt, tt)

pub always_valid : IsAlwaysValid
always_valid n db few is =
    let valid = table_valid n is.table few is.table_is in
    record {
      tables = subst (AllByRecursion IsTable) (sym is.tables) (valid, tt);
      names = subst (λ (ts : List OutTable). IsDistinct same_name (map (λ (t : OutTable). t.name) ts)) (sym is.tables) (alone is.table.name);
    }

-- ---- its trees

-- the trees of a table, by what they are made of
abbrev trees_by : List ℕ → List ℕ → Shape → List StoredRow → List Tree
trees_by name text s rows = record {
  label = record { type_name = codes "table"; name = name; table = name; sql = Text text };
  kind = kind_of s.without_rowid;
  entries = map row_entry rows;
} ∷ map (λ (key : KeyParts). record {
  label = record { type_name = codes "index"; name = index_name name key.number; table = name; sql = Null };
  kind = Index;
  entries = map index_entry (entries_of (keys_of s) key rows);
}) (keys_of s).keys

trees_are : (n : ℕ) (t : OutTable) → IsTrialTable n t → trees_of (t ∷ []) ≡ trial_trees n
trees_are n t is = λ i. trees_by (is.name i) (is.text i) (is.shape i) (is.rows i) ++ []

db_trees : (n : ℕ) (db : OutDb) (is : IsTrial n db) → trees_of db.tables.items ≡ trial_trees n
db_trees n db is = ap trees_of is.tables ∙ trees_are n is.table is.table_is

-- ---- its load

-- the load of a table, by what it is made of
abbrev load_by : List ℕ → List ℕ → Shape → List StoredRow → ℕ
load_by name text s rows =
    label_load (record { type_name = codes "table"; name = name; table = name; sql = Text text })
    + sum_by (λ (row : StoredRow). record_load row.fields) rows
    + sum_by (λ (key : KeyParts).
    label_load (record { type_name = codes "index"; name = index_name name key.number; table = name; sql = Null })
    + sum_by (λ (row : StoredRow). record_load (values_of (entry_parts (keys_of s) key) row)) rows) (keys_of s).keys

table_is : (n : ℕ) (t : OutTable) → IsTrialTable n t → table_load t ≡ load_by (codes "t") table_text table_shape (rows_of n)
table_is n t is = λ i. load_by (is.name i) (is.text i) (is.shape i) (is.rows i)

load_most : (n : ℕ) → load_by (codes "t") table_text table_shape (rows_of n) ≤ 336 + n * 851
load_most n =
    let rows = sum_most (λ (row : StoredRow). record_load row.fields) 776 1 n (λ i. let h = row_short i in omega (arith, h)) in
    let values : StoredRow → ℕ = λ row. record_load (values_of (entry_parts keys index_key) row) in
    let entries = sum_most values 75 1 n (λ i. let h = index_short i in omega (arith, h)) in
    let one = sum_by-cons (λ (key : KeyParts). label_load index_label + sum_by (λ (row : StoredRow). record_load (values_of (entry_parts keys key) row)) (rows_of n)) index_key [] in
    let table = table_label_short (2 ^ 30) in
    let index = index_label_short (2 ^ 30) in
    omega (arith, rows, entries, one, table, index)

pub always_small : IsAlwaysSmall
always_small n db few is =
    let trees = db_trees n db is in
    let tables : sum_by table_load db.tables.items ≡ sum_by table_load (is.table ∷ []) = ap (sum_by table_load) is.tables in
    let one = sum_by-cons table_load is.table [] in
    let loads = table_is n is.table is.table_is in
    let most = load_most n in
    record {
      some = subst (λ (ts : List Tree). 2 ≤ last_page 512 ts) (sym trees) (pages_some n few);
      pages = subst (λ (ts : List Tree). last_page 512 ts ≤ 5 * n + 7) (sym trees) (pages_few n few);
      load = omega (arith, few, tables, one, loads, most);
    }
