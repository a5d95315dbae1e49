-- The pages of the file.
use Rattle.std.proofs.Common.{◌≡◌, refl, ap, ◌∙◌, arith, ℕ, ◌+◌, ◌-◌, ◌*◌, ◌/◌, ◌%◌, ◌<◌, ◌≤◌, pos, Some, lit≤, Bool, true, false, List, [], ◌∷◌, ◌++◌, length, map, nat_le, sum_by}
use Rattle.std.specs.Prelude.{if◌then◌else◌}
use Rattle.std.proofs.lemmas.Bool.Decides.{nat_tests}
use Rattle.std.proofs.lemmas.List.{length-map}
use Rattle.std.proofs.lemmas.List.FromFn.{length-map-range_with_len}
use Rattle.std.proofs.lemmas.List.Sums.{sum_by-cons}
use Rattle.cell_reader.specs.declared.shapes.Kind.{Kind}
use Rattle.cell_reader.specs.declared.shapes.Kind.TheVariants.{Table, Index}
use Rattle.cell_reader.specs.Cell.{local_len}
use Rattle.key_order.specs.declared.Coll.TheVariants.{Binary}
use Rattle.record_core.specs.declared.values.Value.{Value}
use Rattle.record_core.specs.Shortest.{record_bytes}
use Rattle.table_shape.specs.declared.keys.KeyPart.{KeyPart}
use Rattle.table_shape.specs.declared.keys.Spot.TheVariants.{Field}
use Rattle.table_shape.specs.Entries.{entries_of, entry_parts, in_order}
use Rattle.table_shape.specs.Keys.{KeyParts, StoredRow, key_of, values_of}
use Rattle.tree_writer.specs.Cells.{item_overs, over_count, overs, width_of}
use Rattle.tree_writer.specs.Entry.{Entry, Item, leaf_item}
use Rattle.tree_writer.specs.Numbers.{number_of}
use Rattle.tree_writer.specs.Levels.{Sheet, leaf_cut, pages_in, sheets_from, tree_sheets}
use Rattle.tree_writer.specs.Trees.{schema_count, tree_count}
use Rattle.written_trees.proofs.Few.{schema_few, tree_few}
use Rattle.db_builder.specs.Layout.{last_page, page_total, root_of, row_values, schema_entries, start_of}
use Rattle.db_builder.specs.Trees.{Tree, index_entry, row_entry}
use Rattle.db_builder.proofs.Sums.{ordered_within, sum_by-map}
use Rattle.trial_file.specs.Rows.{row_of, rows_of}
use Rattle.trial_file.proofs.Lengths.{index_label, index_label_short, index_short, row_short, sum_most, table_label, table_label_short}
use Rattle.trial_file.proofs.Fit.{keys}

-- ---- overflow pages of an entry

-- a payload that is local has none
abbrev overs_by : Bool → ℕ → ℕ
overs_by b n = (n - (if b then n else (if nat_le (39 + (n - 39) % 508) 477 then 39 + (n - 39) % 508 else 39)) + 507) / 508

none_local : (n : ℕ) → (n - n + 507) / 508 ≡ 0
none_local n = omega arith

short_row : (e : Entry) → length e.bytes ≤ 477 → over_count 512 Table e ≡ 0
unfolding over_count local_len
short_row e few =
    let le : nat_le (length e.bytes) 477 ≡ true = grind (arith, nat_tests, few) in
    ap (λ b. overs_by b (length e.bytes)) le ∙ none_local (length e.bytes)

short_key : (e : Entry) → length e.bytes ≤ 102 → over_count 512 Index e ≡ 0
unfolding over_count local_len
short_key e few =
    let le : nat_le (length e.bytes) 102 ≡ true = grind (arith, nat_tests, few) in
    rw le (none_local (length e.bytes))

-- in a table tree a payload of 744 bytes has one at most
long : (n : ℕ) → 478 ≤ n → n ≤ 744 → overs_by false n ≤ 1
long n least most = by (nat_le (39 + (n - 39) % 508) 477) refl
  where
    by : (b : Bool) → nat_le (39 + (n - 39) % 508) 477 ≡ b → overs_by false n ≤ 1
    by true e = (let h : 39 + (n - 39) % 508 ≤ 477 = grind (arith, nat_tests) in rw e (omega (arith, least, most, h)))
    by false e = (let h : 477 < 39 + (n - 39) % 508 = grind (arith, nat_tests) in rw e (omega (arith, least, most, h)))

one_at_most : (e : Entry) → length e.bytes ≤ 744 → over_count 512 Table e ≤ 1
unfolding over_count local_len
one_at_most e few = by (nat_le (length e.bytes) 477) refl
  where
    by : (b : Bool) → nat_le (length e.bytes) 477 ≡ b → overs_by (nat_le (length e.bytes) 477) (length e.bytes) ≤ 1
    by true e' = (let h : length e.bytes ≤ 477 = grind (arith, nat_tests) in omega (arith, ap (λ b. overs_by b (length e.bytes)) e', none_local (length e.bytes)))
    by false e' = (let h : 478 ≤ length e.bytes = grind (arith, nat_tests) in omega (arith, ap (λ b. overs_by b (length e.bytes)) e', long (length e.bytes) h few))

-- ---- the trees

abbrev pub index_key : KeyParts
index_key = record { number = 1; parts = record { spot = Field 1; coll = Binary } ∷ [] }

abbrev index_parts : List KeyPart
index_parts = entry_parts keys index_key

abbrev pub rows_tree : ℕ → Tree
rows_tree n = record { label = table_label; kind = Table; entries = map row_entry (rows_of n) }

abbrev pub index_tree : ℕ → Tree
index_tree n = record { label = index_label; kind = Index; entries = map index_entry (entries_of keys index_key (rows_of n)) }

abbrev pub trial_trees : ℕ → List Tree
trial_trees n = rows_tree n ∷ (index_tree n ∷ [])

rows_pages : (n : ℕ) → tree_count 512 Table (rows_tree n).entries ≤ 3 * n + 1
rows_pages n =
    let es = map row_entry (rows_of n) in
    let few = tree_few 512 Table es (lit≤ tt) in
    let len : length es ≡ n = length-map (rows_of n) row_entry ∙ length-map-range_with_len row_of 1 n in
    let same : overs 512 Table (map leaf_item es) ≡ sum_by (λ row. over_count 512 Table (row_entry row)) (rows_of n) =
    sum_by-map (item_overs 512 Table) leaf_item es ∙ sum_by-map (λ (e : Entry). over_count 512 Table e) row_entry (rows_of n) in
    let most : sum_by (λ row. over_count 512 Table (row_entry row)) (rows_of n) ≤ n * 1 =
    sum_most (λ row. over_count 512 Table (row_entry row)) 1 1 n (λ i. one_at_most (row_entry (row_of i)) (row_short i)) in
    omega (arith, few, len, same, most)

index_pages : (n : ℕ) → tree_count 512 Index (index_tree n).entries ≤ 2 * n + 1
index_pages n =
    let key = key_of index_parts in
    let sorted = in_order key (rows_of n) in
    let value : List Value × StoredRow → List Value = λ e. values_of index_parts e.1 in
    let es = map index_entry (map value sorted) in
    let few = tree_few 512 Index es (lit≤ tt) in
    let len : length es ≡ length sorted = length-map (map value sorted) index_entry ∙ length-map sorted value in
    let count : sum_by (λ (e : List Value × StoredRow). 1) sorted ≡ length sorted = ones sorted in
    let fewer : sum_by (λ (e : List Value × StoredRow). 1) sorted ≤ sum_by (λ (row : StoredRow). 1) (rows_of n) = ordered_within key (λ (row : StoredRow). 1) (rows_of n) in
    let rows : sum_by (λ (row : StoredRow). 1) (rows_of n) ≤ n * 1 = sum_most (λ (row : StoredRow). 1) 1 1 n (λ i. omega arith) in
    let over : StoredRow → ℕ = λ row. over_count 512 Index (index_entry (values_of index_parts row)) in
    let same : overs 512 Index (map leaf_item es) ≡ sum_by (λ (e : List Value × StoredRow). over e.1) sorted =
    sum_by-map (item_overs 512 Index) leaf_item es ∙ (sum_by-map (λ (e : Entry). over_count 512 Index e) index_entry (map value sorted)
    ∙ sum_by-map (λ (vs : List Value). over_count 512 Index (index_entry vs)) value sorted) in
    let within : sum_by (λ (e : List Value × StoredRow). over e.1) sorted ≤ sum_by over (rows_of n) = ordered_within key over (rows_of n) in
    let each : (i : ℕ) → over (row_of i) ≤ 0 = λ i. let none = short_key (index_entry (values_of index_parts (row_of i))) (omega (arith, index_short i)) in omega (arith, none) in
    let none : sum_by over (rows_of n) ≤ n * 0 = sum_most over 0 1 n each in
    omega (arith, few, len, count, fewer, rows, same, within, none)
  where
    ones : {X : Type 0} (xs : List X) → sum_by (λ (x : X). 1) xs ≡ length xs
    ones [] = refl
    ones (x ∷ xs) = omega (arith, sum_by-cons (λ x. 1) x xs, ones xs)

schema_pages : (n : ℕ) → schema_count 512 (schema_entries 512 (trial_trees n)) ≤ 5
schema_pages n =
    let es = schema_entries 512 (trial_trees n) in
    let few = schema_few 512 es (lit≤ tt) in
    let over : Item → ℕ = item_overs 512 Table in
    let first : Entry = record { rowid = Some (pos 1); bytes = record_bytes (row_values table_label (root_of 512 (record { start = start_of 512 0; tree = rows_tree n }))) } in
    let second : Entry = record {
      rowid = Some (pos 2);
      bytes = record_bytes (row_values index_label (root_of 512 (record {
        start = start_of 512 (0 + tree_count 512 Table (rows_tree n).entries);
        tree = index_tree n;
      })));
    } in
    let a : over_count 512 Table first ≡ 0 = short_row first (omega (arith, table_label_short (root_of 512 (record { start = start_of 512 0; tree = rows_tree n })))) in
    let b : over_count 512 Table second ≡ 0 = short_row second (omega (
      arith,
      index_label_short (root_of 512 (record {
        start = start_of 512 (0 + tree_count 512 Table (rows_tree n).entries);
        tree = index_tree n;
      })),
    )) in
    let sum : overs 512 Table (map leaf_item es) ≡ over_count 512 Table first + overs 512 Table (leaf_item second ∷ []) = sum_by-cons over (leaf_item first) (leaf_item second ∷ []) in
    let rest : overs 512 Table (leaf_item second ∷ []) ≡ over_count 512 Table second + 0 = sum_by-cons over (leaf_item second) [] in
    omega (arith, few, a, b, sum, rest)

-- ---- all pages

total : (n : ℕ) → page_total 512 (trial_trees n)
    ≡ tree_count 512 Table (rows_tree n).entries + tree_count 512 Index (index_tree n).entries + schema_count 512 (schema_entries 512 (trial_trees n))
total n =
    let count : Tree → ℕ = λ t. tree_count 512 t.kind t.entries in
    omega (arith, sum_by-cons count (rows_tree n) (index_tree n ∷ []), sum_by-cons count (index_tree n) [])

-- a tree has a leaf
some_sheet : (usable : ℕ) (kind : Kind) (fs : List (List Item × Item)) (last : List Item) (right : ℕ) (more : List Sheet)
    → 1 ≤ pages_in usable kind (sheets_from true fs last right ++ more)
some_sheet usable kind [] last right more =
    omega (arith, sum_by-cons (λ (s : Sheet). width_of usable kind s.items) (record { leaf = true; items = last; right = right }) more)
some_sheet usable kind (f ∷ fs) last right more =
    omega (arith, sum_by-cons (λ (s : Sheet). width_of usable kind s.items) (record { leaf = true; items = f.0; right = f.1.child }) (sheets_from true fs last right ++ more))

tree_some : (usable : ℕ) (kind : Kind) (es : List Entry) → 1 ≤ tree_count usable kind es
unfolding tree_sheets
tree_some usable kind es = some_sheet usable kind (leaf_cut usable kind es).firsts (leaf_cut usable kind es).last 0 _

-- the file does not reach its lock-byte page
last_of : (total : ℕ) → 1 ≤ total → total ≤ 1000000 → number_of 1 2097153 (total - 1) ≡ total
last_of total some few =
    let low : nat_le 2097153 (1 + (total - 1)) ≡ false = grind (arith, nat_tests, some, few) in
    rw low (omega (arith, some))

last_is : (n : ℕ) → n ≤ 100000 → last_page 512 (trial_trees n) ≡ page_total 512 (trial_trees n)
last_is n few =
    last_of (page_total 512 (trial_trees n)) (omega (arith, total n)) (omega (arith, few, total n, rows_pages n, index_pages n, schema_pages n))

pub pages_some : (n : ℕ) → n ≤ 100000 → 2 ≤ last_page 512 (trial_trees n)
pages_some n few = omega (arith, last_is n few, total n, tree_some 512 Table (rows_tree n).entries)

pub pages_few : (n : ℕ) → n ≤ 100000 → last_page 512 (trial_trees n) ≤ 5 * n + 7
pages_few n few = omega (arith, last_is n few, total n, rows_pages n, index_pages n, schema_pages n)
