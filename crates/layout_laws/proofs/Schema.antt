-- The rows of the schema that a layout writes: which are those of tables, and which of automatic indexes.
use Rattle.std.proofs.Common.{◌≡◌, ◌<◌, ℕ, zero, suc, ◌+◌, ◌^◌, pos, Bool, true, false, ◌&&◌, ◌||◌, List, [], ◌∷◌, ◌++◌, map, filter, refl, ap, ◌∙◌, arith}
use Rattle.std.specs.Prelude.{Some, None, if◌then◌else◌, is_none, is_some}
use Rattle.std.specs.List.{AllByRecursion}
use Rattle.std.proofs.lemmas.List.{map-append}
use Rattle.std.proofs.lemmas.List.Elements.{filter-append}
use Rattle.std.proofs.lemmas.List.Sums.{sum_by-cons}
use Rattle.create_grammar.specs.Said.{is_virtual}
use Rattle.record_core.specs.declared.values.Value.{Value}
use Rattle.record_core.specs.declared.values.Value.TheVariants.{Null, Whole, Real8, Text, Blob}
use Rattle.record_core.specs.Shortest.{AllStored, IsStored}
use Rattle.raw_schema.specs.Rows.{kind_named}
use Rattle.raw_schema.specs.declared.rows.SchemaKind.TheVariants.{Table, Index, View, Trigger}
use Rattle.raw_schema.specs.declared.rows.SchemaRow.{SchemaRow}
use Rattle.table_shape.specs.declared.rows.OutTable.{OutTable}
use Rattle.table_shape.specs.Keys.{KeyParts}
use Rattle.db_builder.specs.Layout.{Placed, pages_of_trees, placed, root_of, row_values}
use Rattle.db_builder.specs.Plannable.{IsLabel}
use Rattle.db_builder.specs.Trees.{Label, Tree, key_label, key_tree, keys_in, table_label, table_tree, trees_of}
use Rattle.well_formed.specs.Indexes.{automatic_rows, named_index_rows, rootless_rows}
use Rattle.well_formed.specs.Stored.{no_place}
use Rattle.well_formed.specs.Tables.{is_of, is_stored, is_virtual_sql, table_names}
use Rattle.layout_laws.proofs.Reading.{IsRow}
use Rattle.layout_laws.proofs.Standing.{at_tree, count_in}

-- ---- rows

-- the row that a label with its root is: that of a table has a text
abbrev pub row_with : Label → ℕ → Value → SchemaRow
row_with l root Null = record { kind = Index; name = l.name; tbl = l.table; root = pos root; sql = None; place = no_place }
row_with l root (Whole number) = record { kind = Index; name = l.name; tbl = l.table; root = pos root; sql = None; place = no_place }
row_with l root (Real8 bytes) = record { kind = Index; name = l.name; tbl = l.table; root = pos root; sql = None; place = no_place }
row_with l root (Text sql) = record { kind = Table; name = l.name; tbl = l.table; root = pos root; sql = Some sql; place = no_place }
row_with l root (Blob bytes) = record { kind = Index; name = l.name; tbl = l.table; root = pos root; sql = None; place = no_place }

-- the row for a tree at its place
abbrev pub row_for : ℕ → Placed → SchemaRow
row_for size p = row_with p.tree.label (root_of size p) p.tree.label.sql

-- the row of a table, and that of one of its keys, behind so many pages
abbrev pub table_row : ℕ → ℕ → OutTable → SchemaRow
table_row size before t = row_for size (at_tree size before (table_tree t))

abbrev pub key_row : ℕ → ℕ → OutTable → KeyParts → SchemaRow
key_row size before t key = row_for size (at_tree size before (key_tree t key))

-- the rows for the trees of tables, the first of which stands behind so many pages
abbrev pub all_rows : ℕ → ℕ → List OutTable → List SchemaRow
all_rows size before ts = map (row_for size) (placed size before (trees_of ts))

-- the rows of some keys of a table
abbrev pub keys_rows : ℕ → ℕ → OutTable → List KeyParts → List SchemaRow
keys_rows size before t keys = map (row_for size) (placed size before (map (key_tree t) keys))

-- behind the tree of a table's rows, and behind those of its keys
abbrev pub past_rows : ℕ → ℕ → OutTable → ℕ
past_rows size before t = before + count_in size (table_tree t)

abbrev pub past_table : ℕ → ℕ → OutTable → ℕ
past_table size before t = past_rows size before t + pages_of_trees size (map (key_tree t) (keys_in t).keys)

-- the rows of tables, and those of their keys
abbrev pub stored_rows : ℕ → ℕ → List OutTable → List SchemaRow
stored_rows size before [] = []
stored_rows size before (t ∷ ts) = table_row size before t ∷ stored_rows size (past_table size before t) ts

abbrev pub key_rows : ℕ → ℕ → List OutTable → List SchemaRow
key_rows size before [] = []
key_rows size before (t ∷ ts) = keys_rows size (past_rows size before t) t (keys_in t).keys ++ key_rows size (past_table size before t) ts

-- ---- the rows are read back

values_stored : (l : Label) (root : ℕ) → root < 2 ^ 63 → IsStored l.sql → AllStored (row_values l root)
values_stored l root small sql zero lt = tt
values_stored l root small sql (suc zero) lt = tt
values_stored l root small sql (suc (suc zero)) lt = tt
values_stored l root small sql (suc (suc (suc zero))) lt = small
values_stored l root small sql (suc (suc (suc (suc zero)))) lt = sql
values_stored l root small sql (suc (suc (suc (suc (suc k))))) lt = absurd (omega arith)

pub table_row_back : (t : OutTable) (root : ℕ) → root < 2 ^ 63 → IsLabel (table_label t)
    → IsRow (row_values (table_label t) root) (row_with (table_label t) root (table_label t).sql)
unfolding kind_named
table_row_back t root small label =
    record { good = record { writable = label root; stored = values_stored (table_label t) root small tt }; is_row = refl }

pub key_row_back : (t : OutTable) (number root : ℕ) → root < 2 ^ 63 → IsLabel (key_label t number)
    → IsRow (row_values (key_label t number) root) (row_with (key_label t number) root (key_label t number).sql)
unfolding kind_named
key_row_back t number root small label =
    record { good = record { writable = label root; stored = values_stored (key_label t number) root small tt }; is_row = refl }

-- ---- the rows table by table

pub placed-append : (size before : ℕ) (xs ys : List Tree) → placed size before (xs ++ ys) ≡ placed size before xs ++ placed size (before + pages_of_trees size xs) ys
placed-append size before [] ys = ap (λ n. placed size n ys) (let e : before ≡ before + 0 = omega arith in e)
placed-append size before (x ∷ xs) ys =
    ap (λ (ps : List Placed). at_tree size before x ∷ ps) (placed-append size (before + count_in size x) xs ys
    ∙ ap (λ n. placed size (before + count_in size x) xs ++ placed size n ys)
    (let e : before + count_in size x + pages_of_trees size xs ≡ before + pages_of_trees size (x ∷ xs) = omega (arith, sum_by-cons (count_in size) x xs) in e))

pub rows_apart : (size before : ℕ) (t : OutTable) (ts : List OutTable)
    → all_rows size before (t ∷ ts) ≡ table_row size before t ∷ (keys_rows size (past_rows size before t) t (keys_in t).keys ++ all_rows size (past_table size before t) ts)
rows_apart size before t ts =
    let keys = map (key_tree t) (keys_in t).keys in
    let here = placed size (past_rows size before t) keys in
    let rest = placed size (past_table size before t) (trees_of ts) in
    ap (λ (ps : List Placed). table_row size before t ∷ map (row_for size) ps) (placed-append size (past_rows size before t) keys (trees_of ts))
    ∙ ap (λ (rows : List SchemaRow). table_row size before t ∷ rows) (map-append (row_for size) here rest)

-- ---- which rows pass a test

-- a text that is that of no virtual table
abbrev pub IsPlain : OutTable → Type 0
IsPlain t = is_virtual t.text ≡ false

-- the rows of tables, or those of keys, or both
abbrev picked : Bool → Bool → ℕ → ℕ → List OutTable → List SchemaRow
picked tables keys size before [] = []
picked tables keys size before (t ∷ ts) =
    (if tables then table_row size before t ∷ [] else [])
    ++ ((if keys then keys_rows size (past_rows size before t) t (keys_in t).keys else []) ++ picked tables keys size (past_table size before t) ts)

-- a test that says the same of all rows of tables, and the same of all rows of keys
record Sifts (test : SchemaRow → Bool) (tables keys : Bool) : Type 0 where
  of_table : (size before : ℕ) (t : OutTable) → IsPlain t → test (table_row size before t) ≡ tables
  of_key : (size before : ℕ) (t : OutTable) (key : KeyParts) → test (key_row size before t key) ≡ keys

keys_sifted : (test : SchemaRow → Bool) (tables keys : Bool) (size before : ℕ) (t : OutTable) (ks : List KeyParts) → Sifts test tables keys
    → filter test (keys_rows size before t ks) ≡ (if keys then keys_rows size before t ks else [])
keys_sifted test tables true size before t [] s = refl
keys_sifted test tables false size before t [] s = refl
keys_sifted test tables true size before t (k ∷ ks) s =
    let here = s.of_key size before t k in
    let more = keys_sifted test tables true size (before + count_in size (key_tree t k)) t ks s in
    rw (here, more) refl
keys_sifted test tables false size before t (k ∷ ks) s =
    let here = s.of_key size before t k in
    let more = keys_sifted test tables false size (before + count_in size (key_tree t k)) t ks s in
    rw (here, more) refl

head_sifted : (test : SchemaRow → Bool) (b : Bool) (row : SchemaRow) (rows : List SchemaRow) → test row ≡ b
    → filter test (row ∷ rows) ≡ (if b then row ∷ [] else []) ++ filter test rows
head_sifted test true row rows e = rw e refl
head_sifted test false row rows e = rw e refl

sifted : (test : SchemaRow → Bool) (tables keys : Bool) (size before : ℕ) (ts : List OutTable) → Sifts test tables keys → AllByRecursion IsPlain ts
    → filter test (all_rows size before ts) ≡ picked tables keys size before ts
sifted test tables keys size before [] s plain = refl
sifted test tables keys size before (t ∷ ts) s plain =
    let here = keys_rows size (past_rows size before t) t (keys_in t).keys in
    let rest = all_rows size (past_table size before t) ts in
    let kept = if keys then here else [] in
    ap (filter test) (rows_apart size before t ts)
    ∙ head_sifted test tables (table_row size before t) (here ++ rest) (s.of_table size before t plain.0)
    ∙ ap (λ (rows : List SchemaRow). (if tables then table_row size before t ∷ [] else []) ++ rows)
    (filter-append test here rest
    ∙ ap (λ (rows : List SchemaRow). rows ++ filter test rest) (keys_sifted test tables keys size (past_rows size before t) t (keys_in t).keys s)
    ∙ ap (λ (rows : List SchemaRow). kept ++ rows) (sifted test tables keys size (past_table size before t) ts s plain.1))

picked_none : (size before : ℕ) (ts : List OutTable) → picked false false size before ts ≡ []
picked_none size before [] = refl
picked_none size before (t ∷ ts) = picked_none size (past_table size before t) ts

picked_tables : (size before : ℕ) (ts : List OutTable) → picked true false size before ts ≡ stored_rows size before ts
picked_tables size before [] = refl
picked_tables size before (t ∷ ts) = ap (λ (rows : List SchemaRow). table_row size before t ∷ rows) (picked_tables size (past_table size before t) ts)

picked_keys : (size before : ℕ) (ts : List OutTable) → picked false true size before ts ≡ key_rows size before ts
picked_keys size before [] = refl
picked_keys size before (t ∷ ts) = ap (λ (rows : List SchemaRow). keys_rows size (past_rows size before t) t (keys_in t).keys ++ rows) (picked_keys size (past_table size before t) ts)

pub stored_are : (size before : ℕ) (ts : List OutTable) → AllByRecursion IsPlain ts → filter is_stored (all_rows size before ts) ≡ stored_rows size before ts
stored_are size before ts plain =
    sifted is_stored true false size before ts (record { of_table = λ n b t e. rw e refl; of_key = λ n b t key. refl }) plain ∙ picked_tables size before ts

pub automatic_are : (size before : ℕ) (ts : List OutTable) → AllByRecursion IsPlain ts → automatic_rows (all_rows size before ts) ≡ key_rows size before ts
automatic_are size before ts plain =
    sifted (λ row. is_of Index row.kind && is_none row.sql) false true size before ts (record { of_table = λ n b t e. refl; of_key = λ n b t key. refl }) plain
    ∙ picked_keys size before ts

pub no_named : (size before : ℕ) (ts : List OutTable) → AllByRecursion IsPlain ts → named_index_rows (all_rows size before ts) ≡ []
no_named size before ts plain =
    sifted (λ row. is_of Index row.kind && is_some row.sql) false false size before ts (record { of_table = λ n b t e. refl; of_key = λ n b t key. refl }) plain
    ∙ picked_none size before ts

pub no_rootless : (size before : ℕ) (ts : List OutTable) → AllByRecursion IsPlain ts → rootless_rows (all_rows size before ts) ≡ []
no_rootless size before ts plain =
    sifted (λ row. is_of View row.kind || (is_of Trigger row.kind || (is_of Table row.kind && is_virtual_sql row.sql))) false false size before ts
    (record { of_table = λ n b t e. e; of_key = λ n b t key. refl }) plain
    ∙ picked_none size before ts

names_are : (size before : ℕ) (ts : List OutTable) → map (λ (row : SchemaRow). row.name) (stored_rows size before ts) ≡ map (λ (t : OutTable). t.name) ts
names_are size before [] = refl
names_are size before (t ∷ ts) = ap (λ (names : List (List ℕ)). t.name ∷ names) (names_are size (past_table size before t) ts)

pub tables_named : (size before : ℕ) (ts : List OutTable) → AllByRecursion IsPlain ts → table_names (all_rows size before ts) ≡ map (λ (t : OutTable). t.name) ts
tables_named size before ts plain =
    ap (map (λ (row : SchemaRow). row.name)) (sifted (λ row. is_of Table row.kind) true false size before ts (record { of_table = λ n b t e. refl; of_key = λ n b t key. refl }) plain
    ∙ picked_tables size before ts)
    ∙ names_are size before ts
