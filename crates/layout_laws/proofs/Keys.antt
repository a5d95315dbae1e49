-- The automatic index of each key: among all rows of the schema exactly one is its own, and its tree holds its entries.
use Rattle.std.proofs.Common.{◌≡◌, ◌≢◌, ◌<◌, ◌≤◌, ℕ, suc, ◌+◌, ◌^◌, Bool, true, false, ◌&&◌, List, [], ◌∷◌, ◌++◌, length, map, filter, decimal, refl, sym, ap, ◌∙◌, arith}
use Rattle.std.specs.Prelude.{codes, nat_lt}
use Rattle.std.specs.List.{AllByRecursion, concat}
use Rattle.std.specs.Str.{bytes_eq}
use Rattle.std.proofs.lemmas.Bool.Decides.{nat_tests}
use Rattle.std.proofs.lemmas.Fmt.{decimal_injective}
use Rattle.std.proofs.lemmas.List.{append_assoc, append_cancel_left}
use Rattle.std.proofs.lemmas.List.Elements.{filter-append}
use Rattle.std.proofs.lemmas.List.Sums.{sum_by-cons}
use Rattle.std.proofs.lemmas.Slice.Eq.{bytes_eq-Decides}
use Rattle.page_lists.specs.Lists.{count}
use Rattle.page_lists.proofs.Counts.{count-append}
use Rattle.raw_schema.specs.declared.rows.SchemaRow.{SchemaRow}
use Rattle.table_shape.specs.declared.rows.OutTable.{OutTable}
use Rattle.table_shape.specs.Entries.{entries_of}
use Rattle.table_shape.specs.Keys.{KeyParts, parts_of}
use Rattle.table_shape.specs.Names.{index_name}
use Rattle.table_shape.specs.Shape.{KeyColumns, Shape, rises}
use Rattle.tree_forms.specs.Tree.{entries}
use Rattle.tree_writer.specs.Numbers.{number_of}
use Rattle.tree_writer.proofs.Raising.{all_append}
use Rattle.written_trees.specs.Trees.{numbers}
use Rattle.written_trees.proofs.Numbers.{count-numbers}
use Rattle.db_builder.specs.declared.databases.OutDb.{OutDb}
use Rattle.db_builder.specs.Layout.{lock_of, pages_of_trees, root_of}
use Rattle.db_builder.specs.Trees.{key_tree, keys_in, rows_in}
use Rattle.well_formed.specs.Indexes.{AreKeyIndexes, IsKeyIndex, is_index_of}
use Rattle.layout_laws.specs.Written.{table_of}
use Rattle.layout_laws.proofs.Reading.{IsGood, tree_stored, values_back}
use Rattle.layout_laws.proofs.Schema.{key_row, keys_rows}
use Rattle.layout_laws.proofs.Standing.{TreesStand, at_tree, count_in, file_of}

-- ---- names of automatic indexes

pub same_bytes : (xs : List ℕ) → bytes_eq xs xs ≡ true
same_bytes xs = (bytes_eq-Decides xs xs).1 refl

pub other_bytes : (xs ys : List ℕ) → (xs ≡ ys → ⊥) → bytes_eq xs ys ≡ false
other_bytes xs ys other = by (bytes_eq xs ys) (λ e. (bytes_eq-Decides xs ys).0 e)
  where
    by : (b : Bool) → (b ≡ true → xs ≡ ys) → b ≡ false
    by true same = absurd (other (same refl))
    by false same = refl

pub index_name_one : (table : List ℕ) (m n : ℕ) → m < 2 ^ 63 → n < 2 ^ 63 → index_name table m ≡ index_name table n → m ≡ n
unfolding index_name
index_name_one table m n small_m small_n same =
    let tails = append_cancel_left (codes "sqlite_autoindex_") (table ++ (codes "_" ++ decimal m)) (table ++ (codes "_" ++ decimal n)) same in
    let ends = append_cancel_left table (codes "_" ++ decimal m) (codes "_" ++ decimal n) tails in
    decimal_injective m n (omega arith) (omega arith) (append_cancel_left (codes "_") (decimal m) (decimal n) ends)

-- the row of a key is that of its index
own_row : (size before : ℕ) (t : OutTable) (key : KeyParts) → is_index_of t.name key.number (key_row size before t key) ≡ true
own_row size before t key =
    let name = same_bytes (index_name t.name key.number) in
    let table = same_bytes t.name in
    rw (name, table) refl

-- it is not that of another key
other_row : (size before : ℕ) (t : OutTable) (key : KeyParts) (n : ℕ) → key.number < 2 ^ 63 → n < 2 ^ 63 → key.number ≢ n
    → is_index_of t.name n (key_row size before t key) ≡ false
other_row size before t key n small_k small_n other =
    let name = other_bytes (index_name t.name key.number) (index_name t.name n) (λ e. other (index_name_one t.name key.number n small_k small_n e)) in
    rw name refl

-- no row is the index of a key with this number of a table with this name
abbrev pub Absent : List ℕ → ℕ → List SchemaRow → Type 0
Absent name n rows = AllByRecursion (λ (row : SchemaRow). is_index_of name n row ≡ false) rows

-- the rows of one table's keys are those of no other table
and_false : (a b : Bool) → b ≡ false → (a && b) ≡ false
and_false true b e = e
and_false false b e = refl

pub other_table : (name : List ℕ) (n size before : ℕ) (t : OutTable) (keys : List KeyParts) → (t.name ≡ name → ⊥) → Absent name n (keys_rows size before t keys)
other_table name n size before t [] other = tt
other_table name n size before t (key ∷ keys) other = (
  and_false (bytes_eq (index_name t.name key.number) (index_name name n)) (bytes_eq t.name name) (other_bytes t.name name other),
  other_table name n size (before + count_in size (key_tree t key)) t keys other,
)

-- ---- numbers of keys

-- numbers rise, and fit
abbrev pub Rising : ℕ → List KeyParts → Type 0
Rising low [] = Unit {0}
Rising low (key ∷ keys) = (low < key.number) × ((key.number < 2 ^ 63) × Rising key.number keys)

first_of_both : (a b : Bool) → (a && b) ≡ true → (a ≡ true) × (b ≡ true)
first_of_both true b e = (refl, e)
first_of_both false b e = absurd cc

pub keys_rise : (s : Shape) (low : ℕ) (keys : List KeyColumns) → rises low keys ≡ true → AllByRecursion (λ (key : KeyParts). key.number < 2 ^ 63) (map (parts_of s) keys)
    → Rising low (map (parts_of s) keys)
keys_rise s low [] rise small = tt
keys_rise s low (key ∷ keys) rise small =
    let both = first_of_both (nat_lt low key.number) (rises key.number keys) rise in
    let test : nat_lt low key.number ≡ true = both.0 in
    let above : low < key.number = grind (arith, nat_tests) in
    (above, (small.0, keys_rise s key.number keys both.1 small.1))

-- later keys have other numbers
later_absent : (size before n low : ℕ) (t : OutTable) (keys : List KeyParts) → n < 2 ^ 63 → n ≤ low → Rising low keys → Absent t.name n (keys_rows size before t keys)
later_absent size before n low t [] small le rise = tt
later_absent size before n low t (key ∷ keys) small le rise = (
  other_row size before t key n rise.1.0 small (let above = rise.0 in let lt : n < key.number = omega arith in λ same. absurd (omega (arith, same, lt))),
  later_absent size (before + count_in size (key_tree t key)) n key.number t keys small (omega (arith, le, rise.0)) rise.1.1,
)

-- a key's row is not among those before
abbrev pub NoneBefore : OutTable → List SchemaRow → List KeyParts → Type 0
NoneBefore t rows keys = AllByRecursion (λ (key : KeyParts). Absent t.name key.number rows) keys

one_before : (size before low : ℕ) (t : OutTable) (key : KeyParts) (rows : List SchemaRow) (keys : List KeyParts) → key.number < 2 ^ 63 → key.number ≤ low → Rising low keys
    → NoneBefore t rows keys → NoneBefore t (rows ++ key_row size before t key ∷ []) keys
one_before size before low t key rows [] small le rise none = tt
one_before size before low t key rows (k ∷ keys) small le rise none =
    let above = rise.0 in
    let lt : key.number < k.number = omega arith in (
      all_append (λ (row : SchemaRow). is_index_of t.name k.number row ≡ false) rows (key_row size before t key ∷ []) none.0
          (other_row size before t key k.number small rise.1.0 (λ same. absurd (omega (arith, same, lt))), tt),
      one_before size before k.number t key rows keys small (omega (arith, lt)) rise.1.1 none.1,
    )

-- ---- exactly one row passes

none_pass : {X : Type 0} (test : X → Bool) (xs : List X) → AllByRecursion (λ x. test x ≡ false) xs → filter test xs ≡ []
none_pass test [] none = refl
none_pass test (x ∷ xs) none =
    let here = none.0 in
    let more = none_pass test xs none.1 in
    rw (here, more) refl

one_passes : {X : Type 0} (test : X → Bool) (xs : List X) (x : X) (ys : List X) → AllByRecursion (λ y. test y ≡ false) xs → test x ≡ true → AllByRecursion (λ y. test y ≡ false) ys
    → filter test (xs ++ x ∷ ys) ≡ x ∷ []
one_passes test xs x ys before here behind =
    let rest : filter test (x ∷ ys) ≡ x ∷ [] = (let more = none_pass test ys behind in rw (here, more) refl) in
    filter-append test xs (x ∷ ys) ∙ ap (λ l. l ++ filter test (x ∷ ys)) (none_pass test xs before) ∙ rest

-- ---- all keys of a table

-- the automatic indexes of keys, with the pages of each: together they are those behind `before`
pub record KeysMade (size : ℕ) (db : OutDb) (rows : List SchemaRow) (t : OutTable) (before : ℕ) (keys : List KeyParts) : Type 0 where
  pub used : List (List ℕ)
  pub are : AreKeyIndexes (file_of size db) rows (table_of t) (keys_in t) keys used
  pub many : length (keys_rows size before t keys) ≡ length used
  pub same : (q : ℕ) → count q (concat used) ≡ count q (numbers (number_of 2 (lock_of size)) before (pages_of_trees size (map (key_tree t) keys)))

-- the records of keys are read back
abbrev pub AreGood : OutTable → List KeyParts → Type 0
AreGood t keys = AllByRecursion (λ (key : KeyParts). AllByRecursion IsGood (entries_of (keys_in t) key (rows_in t))) keys

pub keys_made : (size : ℕ) (db : OutDb) (all front back : List SchemaRow) (t : OutTable) (before low : ℕ) (keys : List KeyParts)
    → all ≡ front ++ (keys_rows size before t keys ++ back) → NoneBefore t front keys → ((n : ℕ) → Absent t.name n back) → Rising low keys
    → TreesStand (file_of size db) before (map (key_tree t) keys) → AreGood t keys → KeysMade size db all t before keys
keys_made size db all front back t before low [] split none others rise stand good = record { used = []; are = tt; many = refl; same = λ q. refl }
keys_made size db all front back t before low (key ∷ keys) split none others rise stand good =
    let f = file_of size db in
    let number = number_of 2 (lock_of size) in
    let row = key_row size before t key in
    let more = before + count_in size (key_tree t key) in
    let rest = keys_rows size more t keys in
    let tree = stand.0 in
    let next = keys_made size db all (front ++ row ∷ []) back t more key.number keys
    (split ∙ sym (append_assoc front (row ∷ []) (rest ++ back)))
    (one_before size before key.number t key front keys rise.1.0 (omega arith) rise.1.1 none.1)
    others rise.1.1 stand.1 good.1 in
    let one : IsKeyIndex f all (table_of t) (keys_in t) key tree.used = record {
      row = row;
      one = ap (filter (is_index_of t.name key.number)) split
          ∙ one_passes (is_index_of t.name key.number) front row (rest ++ back) none.0 (own_row size before t key)
          (all_append (λ (r : SchemaRow). is_index_of t.name key.number r ≡ false) rest back (later_absent size more key.number key.number t keys rise.1.0 (omega arith) rise.1.1) (others key.number));
      root = root_of size (at_tree size before (key_tree t key));
      root_is = refl;
      cells = entries tree.items;
      stored = tree_stored f _ _ _ _ tree;
      entries = values_back f (entries tree.items) (entries_of (keys_in t) key (rows_in t)) tree.holds good.0;
    } in
    record {
      used = tree.used ∷ next.used;
      are = (one, next.are);
      many = ap suc next.many;
      same = λ q.
          let sums = ap (λ n. count q (numbers number before n)) (sum_by-cons (count_in size) (key_tree t key) (map (key_tree t) keys)) in
          omega (
            arith,
            count-append q tree.used (concat next.used),
            tree.same q,
            next.same q,
            sums,
            count-numbers number q before (count_in size (key_tree t key)) (pages_of_trees size (map (key_tree t) keys)),
          );
    }
