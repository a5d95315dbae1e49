-- A layout is a well-formed file that spells its database.
use Rattle.std.proofs.Common.{◌≡◌, ◌<◌, ◌≤◌, inl, inr, ℕ, ◌+◌, ◌-◌, ◌*◌, ◌/◌, ◌^◌, pos, true, false, nat_le, List, [], ◌∷◌, ◌++◌, length, map, take, drop, refl, sym, ap, ◌∙◌, subst, arith}
use Rattle.std.specs.Prelude.{None, if◌then◌else◌}
use Rattle.std.specs.List.{AllByRecursion, AllZip, concat}
use Rattle.std.proofs.Math.Nat.{mul-div_cancel}
use Rattle.std.proofs.lemmas.Bool.{cases_lt}
use Rattle.std.proofs.lemmas.List.{append_assoc, length-map}
use Rattle.std.proofs.lemmas.List.Sums.{sum_by-append, sum_by-cons}
use Rattle.page_access.specs.Pages.{File, is_page_size}
use Rattle.page_lists.specs.Lists.{count}
use Rattle.page_lists.specs.Table.{is_page}
use Rattle.page_lists.proofs.Counts.{count-append}
use Rattle.cell_reader.specs.declared.shapes.Kind.TheVariants as kinds
use Rattle.cell_reader.specs.Shape.{u32_at}
use Rattle.page_size.specs.Fields as fields
use Rattle.raw_schema.specs.declared.rows.SchemaRow.{SchemaRow}
use Rattle.table_shape.specs.declared.rows.OutTable.{OutTable}
use Rattle.table_shape.specs.Keys.{KeyParts}
use Rattle.table_shape.specs.Names.{is_reserved}
use Rattle.tree_forms.specs.Tree.{entries}
use Rattle.tree_writer.specs.Levels.{tree_line}
use Rattle.tree_writer.specs.Numbers.{number_of}
use Rattle.tree_writer.specs.Page.{page_bytes}
use Rattle.tree_writer.specs.Trees.{schema_count}
use Rattle.written_trees.specs.Trees.{IsTreeOf, numbers}
use Rattle.written_trees.proofs.Numbers.{count-numbers}
use Rattle.db_builder.specs.declared.databases.OutDb.{OutDb}
use Rattle.db_builder.specs.Header.{Said, header_bytes}
use Rattle.db_builder.specs.Layout.{Placed, last_page, layout, lock_of, page_total, pages_of_trees, placed, root_of, row_values, schema_entries, schema_record}
use Rattle.db_builder.specs.Plannable.{CanPrepare, IsKeyPlannable, IsPlannable}
use Rattle.tree_writer.proofs.Raising.{all_append}
use Rattle.db_builder.specs.Trees.{Tree, key_tree, keys_in, table_tree, trees_of}
use Rattle.db_builder.specs.Valid.{IsTable, IsValid}
use Rattle.db_builder.proofs.Roots.{root_within}
use Rattle.db_builder.proofs.Taking.{numbered_rise, placed_len}
use Rattle.well_formed.specs.Header as head
use Rattle.well_formed.specs.Header.{file_in}
use Rattle.well_formed.specs.Freelist.{free_pages}
use Rattle.well_formed.specs.Spells.{AreUses, HasKeyIndexes, HasOthers, HasTables, IsFreelist, IsSchema, IsWellFormed, Spells, all_keys}
use Rattle.well_formed.specs.Tables.{AreNames, AreTables}
use Rattle.well_formed.specs.Indexes.{HaveIndexes, IsOtherIndex, automatic_rows}
use Rattle.layout_laws.specs.Written.{IsTyped, database_of, table_of}
use Rattle.layout_laws.proofs.Fit.{numbered_rowids, trees_can}
use Rattle.layout_laws.proofs.Keys.{Absent}
use Rattle.layout_laws.proofs.Heads.{SaysSo, fractions_are, header_is, no_free, pages_are, string_is}
use Rattle.layout_laws.proofs.Numbering.{each_once, high, last_of, low, number_more}
use Rattle.layout_laws.proofs.Reading.{IsRow, schema_back, tree_stored}
use Rattle.layout_laws.proofs.Schema.{IsPlain, all_rows, key_rows, automatic_are, key_row_back, no_named, no_rootless, placed-append, row_for, stored_are, table_row_back, tables_named}
use Rattle.layout_laws.proofs.Sizes.{lock_late, size_least}
use Rattle.layout_laws.proofs.Standing.{CanStandFirst, Stands, at_tree, bytes_are, count_in, file_of, rest_len, schema_first, stands}
use Rattle.layout_laws.proofs.Tables.{tables_made}

-- ---- the header

-- what the header says
abbrev said_of : ℕ → OutDb → Said
said_of size db = record {
  size = size;
  pages = last_page size (trees_of db.tables.items);
  user_version = db.user_version;
  application_id = db.application_id;
}

-- the file begins with its header
record Begins (size : ℕ) (db : OutDb) : Type 0 where
  rest : List ℕ
  is : layout size db ≡ header_bytes (said_of size db) ++ rest

begins : (size : ℕ) (db : OutDb) → is_page_size size ≡ true → Begins size db
unfolding page_bytes
begins size db valid = by _ _ _ refl (bytes_are size db (lock_late size valid))
  where
    by : (top behind others : List ℕ) → schema_first size db ≡ (header_bytes (said_of size db) ++ top) ++ behind → layout size db ≡ schema_first size db ++ others → Begins size db
    by top behind others first whole = record {
      rest = top ++ (behind ++ others);
      is = whole ∙ ap (λ (b : List ℕ). b ++ others) first ∙ append_assoc (header_bytes (said_of size db) ++ top) behind others ∙ append_assoc (header_bytes (said_of size db)) top (behind ++ others);
    }

says_so : (size : ℕ) (db : OutDb) → is_page_size size ≡ true → IsTyped db → SaysSo (said_of size db) (fields.header_of (layout size db))
says_so size db valid typed =
    let b = begins size db valid in
    subst (λ (bytes : List ℕ). SaysSo (said_of size db) (fields.header_of bytes)) (sym b.is) (header_is (said_of size db) b.rest valid typed.user_version typed.application_id)

-- the header cuts the bytes into the pages that were written
file_is : (size : ℕ) (db : OutDb) → is_page_size size ≡ true → IsTyped db → length (layout size db) ≡ last_page size (trees_of db.tables.items) * size
    → file_in (layout size db) ≡ file_of size db
unfolding file_in
file_is size db valid typed long =
    let bytes = layout size db in
    let h = fields.header_of bytes in
    let says = says_so size db valid typed in
    let make : ℕ → ℕ → ℕ → File = λ s u p. record { bytes = bytes; size = s; usable = u; pages = p } in
    let usable : h.size - h.reserved ≡ size = omega (arith, says.size, says.reserved) in
    let pages : length bytes / h.size ≡ last_page size (trees_of db.tables.items) =
    ap (λ s. length bytes / s) says.size ∙ ap (λ n. n / size) long ∙ mul-div_cancel (last_page size (trees_of db.tables.items)) (omega (arith, size_least size valid)) in
    ap (λ s. make s (h.size - h.reserved) (length bytes / h.size)) says.size ∙ ap (λ u. make size u (length bytes / h.size)) usable ∙ ap (make size size) pages

-- the number of pages fits four bytes
last_small : (size : ℕ) (db : OutDb) → is_page_size size ≡ true → page_total size (trees_of db.tables.items) < 2 ^ 31
    → (1 ≤ last_page size (trees_of db.tables.items)) × (last_page size (trees_of db.tables.items) < 2 ^ 32)
last_small size db valid few =
    let n = page_total size (trees_of db.tables.items) - 1 in
    let lock = lock_of size in
    let late = lock_late size valid in
    elim (cases_lt (1 + n) lock) [
      | inl lt ↦ let is = low 1 lock n lt in (omega (arith, is), omega (arith, is, few))
      | inr le ↦ let is = high 1 lock n (omega arith) le in (omega (arith, is), omega (arith, is, few))
    ]

is_header : (size : ℕ) (db : OutDb) → is_page_size size ≡ true → IsTyped db → length (layout size db) ≡ last_page size (trees_of db.tables.items) * size
    → page_total size (trees_of db.tables.items) < 2 ^ 31 → head.IsHeader (layout size db) (database_of db)
is_header size db valid typed long few =
    let bytes = layout size db in
    let says = says_so size db valid typed in
    let b = begins size db valid in
    let f = file_is size db valid typed long in
    let small = last_small size db valid few in
    record {
      size = record {
        valid = ap is_page_size says.size ∙ valid;
        enough = omega (arith, says.size, says.reserved, size_least size valid);
      };
      some = omega (arith, ap (λ (x : File). x.pages) f, small.0);
      whole = long ∙ sym (ap (λ (x : File). x.pages * x.size) f);
      string = ap (λ (x : List ℕ). take 16 x) b.is ∙ string_is (said_of size db) b.rest;
      fractions = ap (λ (x : List ℕ). take 3 (drop 21 x)) b.is ∙ fractions_are (said_of size db) b.rest;
      no_vacuum = says.largest_root;
      not_le = λ e. absurd (omega (arith, says.encoding, e));
      not_be = λ e. absurd (omega (arith, says.encoding, e));
      pages = λ valid_for some. ap (λ (x : List ℕ). u32_at x 28) b.is ∙ pages_are (said_of size db) b.rest small.1 ∙ sym (ap (λ (x : File). x.pages) f);
      user_version = says.user_version;
      application_id = says.application_id;
    }

-- ---- the schema

-- the row of a tree is read back
abbrev RowBack : ℕ → Placed → Type 0
RowBack size p = IsRow (row_values p.tree.label (root_of size p)) (row_for size p)

-- the root of a tree behind so many pages is no large number
root_small : (size before n : ℕ) (t : Tree) → 2 ≤ lock_of size → before + count_in size t ≤ n → n < 2 ^ 31 → root_of size (at_tree size before t) < 2 ^ 63
root_small size before n t two within few =
    let lock = lock_of size in
    let right = (tree_line size t.kind 0 t.entries).right in
    let root = root_within size t.kind t.entries in
    elim (cases_lt (2 + (before + right)) lock) [
      | inl lt ↦ omega (arith, number_more lock before right two, low 2 lock (before + right) lt, root, within, few)
      | inr le ↦ omega (arith, number_more lock before right two, high 2 lock (before + right) two le, root, within, few)
    ]

keys_back : (size before n : ℕ) (t : OutTable) (keys : List KeyParts) → 2 ≤ lock_of size → before + pages_of_trees size (map (key_tree t) keys) ≤ n → n < 2 ^ 31
    → AllByRecursion (IsKeyPlannable t) keys → AllByRecursion (RowBack size) (placed size before (map (key_tree t) keys))
keys_back size before n t [] two within few can = tt
keys_back size before n t (key ∷ keys) two within few can =
    let sums = sum_by-cons (count_in size) (key_tree t key) (map (key_tree t) keys) in (
      key_row_back t key.number (root_of size (at_tree size before (key_tree t key))) (root_small size before n (key_tree t key) two (omega (arith, sums, within)) few) can.0.label,
      keys_back size (before + count_in size (key_tree t key)) n t keys two (omega (arith, sums, within)) few can.1,
    )

rows_back : (size before n : ℕ) (ts : List OutTable) → 2 ≤ lock_of size → before + pages_of_trees size (trees_of ts) ≤ n → n < 2 ^ 31
    → AllByRecursion IsPlannable ts → AllByRecursion (RowBack size) (placed size before (trees_of ts))
rows_back size before n [] two within few can = tt
rows_back size before n (t ∷ ts) two within few can =
    let first = table_tree t in
    let own = map (key_tree t) (keys_in t).keys in
    let past = before + count_in size first in
    let sums = sum_by-cons (count_in size) first (own ++ trees_of ts) in
    let both = sum_by-append (count_in size) own (trees_of ts) in (
      table_row_back t (root_of size (at_tree size before first)) (root_small size before n first two (omega (arith, sums, within)) few) can.0.label,
      subst (AllByRecursion (RowBack size)) (sym (placed-append size past own (trees_of ts)))
          (all_append (RowBack size) (placed size past own) (placed size (past + pages_of_trees size own) (trees_of ts))
          (keys_back size past n t (keys_in t).keys two (omega (arith, sums, both, within)) few can.0.keys)
          (rows_back size (past + pages_of_trees size own) n ts two (omega (arith, sums, both, within)) few can.1)),
    )

plain_all : (ts : List OutTable) → AllByRecursion IsTable ts → AllByRecursion IsPlain ts
plain_all [] is = tt
plain_all (t ∷ ts) is = (is.0.text.plain, plain_all ts is.1)

free_names : (ts : List OutTable) → AllByRecursion IsTable ts → AllByRecursion (λ (name : List ℕ). is_reserved name ≡ false) (map (λ (t : OutTable). t.name) ts)
free_names [] is = tt
free_names (t ∷ ts) is = (is.0.unreserved, free_names ts is.1)

-- the schema's tree spells the rows of all trees
schema_is : (size : ℕ) (db : OutDb) → is_page_size size ≡ true → AllByRecursion IsPlannable db.tables.items → page_total size (trees_of db.tables.items) < 2 ^ 31
    → (pages : List ℕ) → (tree : IsTreeOf (file_of size db) kinds.Table 1 (schema_entries size (trees_of db.tables.items)) pages)
    → IsSchema (file_of size db) (all_rows size 0 db.tables.items) tree.used
schema_is size db valid can few pages tree =
    let trees = trees_of db.tables.items in
    record {
      cells = entries tree.items;
      stored = tree_stored (file_of size db) _ _ _ _ tree;
      are = schema_back (file_of size db) (λ (p : Placed). row_values p.tree.label (root_of size p)) (row_for size) 1 (entries tree.items) (placed size 0 trees) tree.holds
          (rows_back size 0 (page_total size trees) db.tables.items (omega (arith, lock_late size valid)) (omega arith) few can);
    }

-- ---- each page once

uses_once : (f : File) (q : ℕ) (schema : List ℕ) (tables keys : List (List ℕ)) (rest : List ℕ) (one two : ℕ) → count q schema ≡ one → count q (concat tables) + count q (concat keys) ≡ two
    → count q (schema ++ (concat tables ++ (concat keys ++ (concat [] ++ (free_pages f [] ++ rest))))) ≡ one + two + count q rest
uses_once f q schema tables keys rest one two a b = omega (
  arith,
  a,
  b,
  count-append q schema (concat tables ++ (concat keys ++ rest)),
  count-append q (concat tables) (concat keys ++ rest),
  count-append q (concat keys) rest,
)

are_uses : (size : ℕ) (db : OutDb) (schema : List ℕ) (tables keys : List (List ℕ)) → is_page_size size ≡ true
    → ((q : ℕ) → count q schema ≡ count q (1 ∷ numbers (number_of 2 (lock_of size)) (pages_of_trees size (trees_of db.tables.items)) (schema_count size (schema_entries size (trees_of db.tables.items)) - 1)))
    → ((q : ℕ) → count q (concat tables) + count q (concat keys) ≡ count q (numbers (number_of 2 (lock_of size)) 0 (pages_of_trees size (trees_of db.tables.items))))
    → AreUses (file_of size db) (schema ++ (concat tables ++ (concat keys ++ (concat [] ++ (free_pages (file_of size db) [] ++ head.lock_pages (file_of size db))))))
are_uses size db schema tables keys valid a b q =
    let f = file_of size db in
    let trees = trees_of db.tables.items in
    let number = number_of 2 (lock_of size) in
    let total = pages_of_trees size trees in
    let more = schema_count size (schema_entries size trees) - 1 in
    let place : page_total size trees - 1 ≡ total + more = omega (arith, rest_len size db) in
    let whole = subst (λ n. count q (1 ∷ numbers number 0 (total + more)) + count q (if nat_le (lock_of size) (last_of (lock_of size) n) then lock_of size ∷ [] else []) ≡ (if is_page (last_of (lock_of size) n) q then 1 else 0))
    (sym place) (each_once (lock_of size) (total + more) q (lock_late size valid)) in
    let run : count q (numbers number 0 (total + more)) ≡ count q (numbers number 0 total) + count q (numbers number total more) =
    count-numbers number q 0 total more ∙ ap (λ n. count q (numbers number 0 total) + count q (numbers number n more)) (let e : 0 + total ≡ total = omega arith in e) in
    uses_once f q schema tables keys (head.lock_pages f) _ _ (a q) (b q) ∙ (let e : count q (1 ∷ numbers number total more) + count q (numbers number 0 total) + count q (head.lock_pages f) ≡ (if is_page f.pages q then 1 else 0) = omega (arith, whole, run) in e)

-- ---- the whole file

-- what a file holds that is cut into these pages
record Parts (f : File) (bytes : List ℕ) (db : OutDb) : Type 0 where
  rows : List SchemaRow
  schema_used : List ℕ
  schema : IsSchema f rows schema_used
  tables_used : List (List ℕ)
  tables : HasTables f rows (database_of db) tables_used
  keys_used : List (List (List ℕ))
  keys : HasKeyIndexes f rows (database_of db) keys_used
  others : HasOthers f rows []
  freelist : IsFreelist f []
  uses : AreUses f (schema_used ++ (concat tables_used ++ (concat (all_keys keys_used) ++ (concat [] ++ (free_pages f [] ++ head.lock_pages f)))))

parts : (size : ℕ) (db : OutDb) → is_page_size size ≡ true → IsTyped db → IsValid db → CanPrepare size db → Stands size db → Parts (file_of size db) (layout size db) db
parts size db valid typed is can all =
    let ts = db.tables.items in
    let f = file_of size db in
    let rows = all_rows size 0 ts in
    let plain = plain_all ts is.tables in
    let made = tables_made size db (key_rows size 0 ts) [] 0 ts refl (none_yet ts) is.names is.tables typed.rows can.tables all.trees in
    let b = begins size db valid in
    record {
      rows = rows;
      schema_used = all.schema.used;
      schema = schema_is size db valid can.tables can.pages _ all.schema;
      tables_used = made.tables_used;
      tables = record {
        tables = subst (λ (stored : List SchemaRow). AreTables f stored (map table_of ts) made.tables_used) (sym (stored_are size 0 ts plain)) made.tables;
        names = subst AreNames (sym (tables_named size 0 ts plain)) (record { apart = is.names; free = free_names ts is.tables });
      };
      keys_used = made.keys_used;
      keys = keys_are (automatic_rows rows) (key_rows size 0 ts) (automatic_are size 0 ts plain) made.keys_used made.keys made.many refl;
      others = record {
        indexes = subst (λ (named : List SchemaRow). AllZip (IsOtherIndex f) named []) (sym (no_named size 0 ts plain)) tt;
        rootless = subst (AllByRecursion (λ (row : SchemaRow). row.root ≡ pos 0)) (sym (no_rootless size 0 ts plain)) tt;
      };
      freelist = record {
        linked = (says_so size db valid typed).first_trunk;
        many = ap (λ (x : List ℕ). u32_at x 36) b.is ∙ no_free (said_of size db) b.rest;
      };
      uses = are_uses size db all.schema.used made.tables_used (all_keys made.keys_used) valid all.schema.same made.same;
    }
  where
    none_yet : (ts : List OutTable) → AllByRecursion (λ (t : OutTable). (n : ℕ) → Absent t.name n []) ts
    none_yet [] = tt
    none_yet (t ∷ ts) = (λ n. tt, none_yet ts)

    keys_are : (autos written : List SchemaRow) → autos ≡ written → (used : List (List (List ℕ))) → HaveIndexes (file_of size db) written (map table_of db.tables.items) used
        → length written ≡ length (all_keys used) → autos ≡ automatic_rows (all_rows size 0 db.tables.items) → HasKeyIndexes (file_of size db) (all_rows size 0 db.tables.items) (database_of db) used
    keys_are autos written same used have many is = record {
      indexes = subst (λ (rows : List SchemaRow). HaveIndexes (file_of size db) rows (map table_of db.tables.items) used) (sym same ∙ is) have;
      no_other = ap length (sym is ∙ same) ∙ many;
    }

well_formed : (size : ℕ) (db : OutDb) → is_page_size size ≡ true → IsTyped db → IsValid db → CanPrepare size db → Stands size db → IsWellFormed (layout size db) (database_of db)
well_formed size db valid typed is can all =
    let f = file_is size db valid typed all.long in
    let p = subst (λ (x : File). Parts x (layout size db) db) (sym f) (parts size db valid typed is can all) in
    record {
      header = is_header size db valid typed all.long can.pages;
      rows = p.rows;
      schema_used = p.schema_used;
      schema = p.schema;
      tables_used = p.tables_used;
      tables = p.tables;
      keys_used = p.keys_used;
      keys = p.keys;
      others_used = [];
      others = p.others;
      trunks = [];
      freelist = p.freelist;
      uses = p.uses;
    }

-- the entries of the schema can stand
schema_can : (size : ℕ) (db : OutDb) → CanPrepare size db → CanStandFirst (schema_entries size (trees_of db.tables.items))
schema_can size db can =
    let trees = trees_of db.tables.items in
    let records = map (schema_record size) (placed size 0 trees) in
    record {
      entries_are = can.schema;
      rowids = numbered_rowids 1 records (omega (arith, can.few, length-map (placed size 0 trees) (schema_record size), placed_len size 0 trees));
      rise = numbered_rise None 1 records tt;
    }

pub can_spell : (size : ℕ) (db : OutDb) → is_page_size size ≡ true → IsTyped db → IsValid db → CanPrepare size db → Spells (layout size db) (database_of db)
can_spell size db valid typed is can =
    inr (well_formed size db valid typed is can (stands size db valid can.pages (trees_can db.tables.items is.tables typed.rows can.tables) (schema_can size db can)))
