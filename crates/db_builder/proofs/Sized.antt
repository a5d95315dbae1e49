-- The pages of a database against its load, and the entries of its schema.
use Rattle.std.proofs.Common.{◌≡◌, ◌≤◌, ◌<◌, inl, inr, ◌+◌, ◌*◌, ◌^◌, ℕ, suc, pos, Bool, true, false, List, [], ◌∷◌, length, map, sum_by, refl, ap, arith, nat_le}
use Rattle.std.specs.Prelude.{Some, ◌&&◌, if◌then◌else◌}
use Rattle.std.specs.List.{AllByRecursion}
use Rattle.std.proofs.lemmas.List.Sums.{sum_by-append, sum_by-cons, sum_by-le-sum_by}
use Rattle.cell_reader.specs.declared.shapes.Kind.{Kind}
use Rattle.cell_reader.specs.declared.shapes.Kind.TheVariants.{Table}
use Rattle.varint_core.specs.Shortest.{spell}
use Rattle.varint_core.proofs.Spelled.{len_is, length-spell}
use Rattle.record_core.specs.Shortest.{body_of, record_bytes, serial_type}
use Rattle.table_shape.specs.declared.rows.OutTable.{OutTable}
use Rattle.table_shape.specs.Keys.{KeyParts}
use Rattle.table_shape.specs.Seen.{shape_seen}
use Rattle.tree_writer.specs.Cells.{item_overs, over_count, overs}
use Rattle.tree_writer.specs.Entry.{AreEntries, Entry, HasBytes, leaf_item, weight}
use Rattle.tree_writer.specs.Levels.{tree_line}
use Rattle.tree_writer.specs.Numbers.{number_of}
use Rattle.tree_writer.specs.Trees.{tree_count}
use Rattle.tree_writer.proofs.Raising.{all_append}
use Rattle.written_trees.proofs.Few.{schema_few, tree_few}
use Rattle.db_builder.specs.Layout.{Placed, lock_of, numbered, page_total, pages_of_trees, placed, root_of, row_values, schema_entries, schema_record, start_of}
use Rattle.db_builder.specs.Load.{key_load, label_load, table_load}
use Rattle.db_builder.specs.Trees.{Label, Tree, key_label, key_tree, keys_in, rows_in, table_label, table_tree, table_trees, trees_of}
use Rattle.db_builder.specs.Valid.{IsTable}
use Rattle.db_builder.proofs.Fitting.{key_some, key_weighs, rows_some, rows_weigh}
use Rattle.db_builder.proofs.Lengths.{record_some, short_body}
use Rattle.db_builder.proofs.Loading.{index_name_len, label_len, root_body}
use Rattle.db_builder.proofs.Long.{overs_few}
use Rattle.db_builder.proofs.Roots.{root_within}
use Rattle.db_builder.proofs.Sums.{sum_by-map}
use Rattle.db_builder.proofs.Texts.{text_long}

-- what a tree adds to the load, with its row of the schema
abbrev pub tree_load : Tree → ℕ
tree_load t = label_load t.label + sum_by weight t.entries

abbrev label_sum : List Tree → ℕ
label_sum trees = sum_by (λ (t : Tree). label_load t.label) trees

-- a tree whose entries have bytes, and whose row of the schema is not short
record IsSound (t : Tree) : Type 0 where
  five : length t.label.type_name ≡ 5
  long : 50 ≤ label_load t.label
  some : AllByRecursion HasBytes t.entries

-- ---- the trees of a database

spelled_some : (n : ℕ) → 1 ≤ length (spell n)
spelled_some n = omega (arith, length-spell n, (len_is n).some)

-- the row of the schema is longer than its names and its text
label_long : (l : Label) → length l.type_name ≡ 5 → 47 + length l.name + length l.table + length (body_of l.sql) ≤ label_load l
label_long l five = omega (
  arith,
  label_len l (2 ^ 30) five,
  spelled_some (2 * length l.name + 13),
  spelled_some (2 * length l.table + 13),
  spelled_some (serial_type l.sql),
  root_body,
)

table_sound : (t : OutTable) → IsTable t → IsSound (table_tree t)
table_sound t is = record {
  five = refl;
  long = omega (arith, label_long (table_label t) refl, text_long t.text (shape_seen t.shape) is.text);
  some = rows_some (rows_in t);
}

key_sound : (t : OutTable) (key : KeyParts) → IsSound (key_tree t key)
key_sound t key = record {
  five = refl;
  long = omega (arith, label_long (key_label t key.number) refl, index_name_len t.name key.number);
  some = key_some t key;
}

keys_sound : (t : OutTable) (keys : List KeyParts) → AllByRecursion IsSound (map (key_tree t) keys)
keys_sound t [] = tt
keys_sound t (k ∷ ks) = (key_sound t k, keys_sound t ks)

trees_sound : (ts : List OutTable) → AllByRecursion IsTable ts → AllByRecursion IsSound (trees_of ts)
trees_sound [] are = tt
trees_sound (t ∷ ts) are =
    all_append IsSound (table_trees t) (trees_of ts) (table_sound t are.0, keys_sound t (keys_in t).keys) (trees_sound ts are.1)

table_within : (t : OutTable) → sum_by tree_load (table_trees t) ≤ table_load t
table_within t =
    let keys = (keys_in t).keys in
    omega (
      arith,
      sum_by-cons tree_load (table_tree t) (map (key_tree t) keys),
      rows_weigh (rows_in t),
      sum_by-map tree_load (key_tree t) keys,
      sum_by-le-sum_by (λ (k : KeyParts). tree_load (key_tree t k)) (key_load t) keys (λ k. omega (arith, key_weighs t k)),
    )

-- the load of the trees is that of the tables at most
trees_within : (ts : List OutTable) → sum_by tree_load (trees_of ts) ≤ sum_by table_load ts
trees_within [] = omega arith
trees_within (t ∷ ts) =
    omega (arith, sum_by-append tree_load (table_trees t) (trees_of ts), sum_by-cons table_load t ts, table_within t, trees_within ts)

-- ---- the pages of the trees

entries_few : (usable : ℕ) (kind : Kind) (es : List Entry) → 512 ≤ usable → AllByRecursion HasBytes es
    → 33 * (2 * length es + overs usable kind (map leaf_item es)) ≤ 2 * sum_by weight es
entries_few usable kind [] least some = omega arith
entries_few usable kind (e ∷ es) least some =
    let sums = sum_by-cons weight e es in
    let items = sum_by-cons (item_overs usable kind) (leaf_item e) (map leaf_item es) in
    let rest = entries_few usable kind es least some.1 in
    elim (overs_few usable kind e least) [
      | inl none ↦ omega (arith, sums, items, rest, none, some.0)
      | inr more ↦ omega (arith, sums, items, rest, more)
    ]

tree_pages_few : (size : ℕ) (t : Tree) → 512 ≤ size → IsSound t → 33 * tree_count size t.kind t.entries ≤ 2 * sum_by weight t.entries + 33
tree_pages_few size t least is =
    omega (arith, tree_few size t.kind t.entries (omega arith), entries_few size t.kind t.entries least is.some)

trees_few : (size : ℕ) (trees : List Tree) → 512 ≤ size → AllByRecursion IsSound trees
    → 33 * pages_of_trees size trees + 2 * label_sum trees ≤ 2 * sum_by tree_load trees + 33 * length trees
trees_few size [] least are = omega arith
trees_few size (t ∷ ts) least are =
    omega (
      arith,
      sum_by-cons (λ (x : Tree). tree_count size x.kind x.entries) t ts,
      sum_by-cons (λ (x : Tree). label_load x.label) t ts,
      sum_by-cons tree_load t ts,
      tree_pages_few size t least are.0,
      trees_few size ts least are.1,
    )

labels_long : (trees : List Tree) → AllByRecursion IsSound trees → 50 * length trees ≤ label_sum trees
labels_long [] are = omega arith
labels_long (t ∷ ts) are = omega (arith, sum_by-cons (λ (x : Tree). label_load x.label) t ts, are.0.long, labels_long ts are.1)

-- ---- the entries of the schema

number_most : (start lock k : ℕ) → number_of start lock k ≤ start + k + 1
number_most start lock k = by (nat_le start lock && nat_le lock (start + k))
  where
    by : (b : Bool) → (if b then start + k + 1 else start + k) ≤ start + k + 1
    by true = omega arith
    by false = omega arith

-- the root of a tree behind so many pages
root_most : (size before : ℕ) (t : Tree) → root_of size (record { start = start_of size before; tree = t }) < before + tree_count size t.kind t.entries + 4
root_most size before t =
    let right = (tree_line size t.kind 0 t.entries).right in
    omega (
      arith,
      number_most 2 (lock_of size) before,
      number_most (start_of size before) (lock_of size) right,
      root_within size t.kind t.entries,
    )

-- a row of the schema is as long as the load says at most
row_within : (l : Label) (root : ℕ) → length l.type_name ≡ 5 → root < 2 ^ 31 → length (record_bytes (row_values l root)) + 32 ≤ label_load l
row_within l root five lt = omega (arith, label_len l root five, label_len l (2 ^ 30) five, short_body root lt, root_body)

-- entries of the schema: they have bytes, and they and their overflow pages are within the load
record AreRows (size : ℕ) (trees : List Tree) (es : List Entry) : Type 0 where
  some : AllByRecursion HasBytes es
  load : sum_by weight es ≤ label_sum trees
  pages : 33 * overs size Table (map leaf_item es) + 99 * length es ≤ 2 * label_sum trees

row_pages : (size : ℕ) (e : Entry) (load : ℕ) → 512 ≤ size → weight e ≤ load → 50 ≤ load → 33 * over_count size Table e + 99 ≤ 2 * load
row_pages size e load least le long = elim (overs_few size Table e least) [
  | inl none ↦ omega (arith, le, long, none)
  | inr more ↦ omega (arith, le, long, more)
]

rows_within : (size before k : ℕ) (trees : List Tree) → 512 ≤ size → AllByRecursion IsSound trees → before + pages_of_trees size trees + 4 ≤ 2 ^ 31
    → AreRows size trees (numbered k (map (schema_record size) (placed size before trees)))
rows_within size before k [] least are few = record { some = tt; load = omega arith; pages = omega arith }
rows_within size before k (t ∷ ts) least are few =
    let count = tree_count size t.kind t.entries in
    let pages = sum_by-cons (λ (x : Tree). tree_count size x.kind x.entries) t ts in
    let labels = sum_by-cons (λ (x : Tree). label_load x.label) t ts in
    let p : Placed = record { start = start_of size before; tree = t } in
    let row : Entry = record { rowid = Some (pos k); bytes = schema_record size p } in
    let es = numbered (k + 1) (map (schema_record size) (placed size (before + count) ts)) in
    let short : length (schema_record size p) + 32 ≤ label_load t.label =
    row_within t.label (root_of size p) are.0.five (omega (arith, root_most size before t, pages, few)) in
    let rest = rows_within size (before + count) (k + 1) ts least are.1 (omega (arith, pages, few)) in
    record {
      some = (record_some (row_values t.label (root_of size p)), rest.some);
      load = omega (arith, sum_by-cons weight row es, short, labels, rest.load);
      pages = omega (
        arith,
        sum_by-cons (item_overs size Table) (leaf_item row) (map leaf_item es),
        row_pages size row (label_load t.label) least (omega (arith, short)) are.0.long,
        labels,
        rest.pages,
      );
    }

length-rows : (size before k : ℕ) (trees : List Tree) → length (numbered k (map (schema_record size) (placed size before trees))) ≡ length trees
length-rows size before k [] = refl
length-rows size before k (t ∷ ts) = ap suc (length-rows size (before + tree_count size t.kind t.entries) (k + 1) ts)

-- ---- the database

-- what a load of 2 ^ 35 leaves
pub record AreSmall (size : ℕ) (trees : List Tree) : Type 0 where
  pub few : length trees < 2 ^ 32
  pub schema : AreEntries (schema_entries size trees)
  pub pages : page_total size trees < 2 ^ 31

pub trees_small : (size : ℕ) (ts : List OutTable) → 512 ≤ size → AllByRecursion IsTable ts → sum_by table_load ts ≤ 2 ^ 35 → AreSmall size (trees_of ts)
trees_small size ts least are load =
    let trees = trees_of ts in
    let sound = trees_sound ts are in
    let within = trees_within ts in
    let few = trees_few size trees least sound in
    let long = labels_long trees sound in
    let labels : label_sum trees ≤ sum_by tree_load trees = sum_by-le-sum_by (λ (t : Tree). label_load t.label) tree_load trees (λ t. omega arith) in
    let rows = rows_within size 0 1 trees least sound (omega (arith, load, within, few, long)) in
    let count = length-rows size 0 1 trees in
    record {
      few = omega (arith, load, within, long, labels);
      schema = record { some = rows.some; load = omega (arith, rows.load, labels, within, load) };
      pages = omega (arith, load, within, few, rows.pages, count, schema_few size (schema_entries size trees) (omega arith));
    }
