-- The bytes of a written file (docs/FORMAT.md, "Layout of a written file").
use Rattle.std.specs.Prelude.{ℕ, ◌+◌, ◌-◌, ◌/◌, ◌^◌, ◌==◌, pos, Some, if◌then◌else◌, List, [], ◌∷◌, ◌++◌, drop, map, replicate, slice_index_or, sum_by}
use Rattle.std.specs.List.{flat_map}
use Rattle.record_core.specs.declared.values.Value.{Value}
use Rattle.record_core.specs.declared.values.Value.TheVariants.{Text, Whole}
use Rattle.record_core.specs.Shortest.{record_bytes}
use Rattle.tree_writer.specs.Entry.{Entry}
use Rattle.tree_writer.specs.Layout.{schema_pages, tree_pages}
use Rattle.tree_writer.specs.Levels.{tree_line}
use Rattle.tree_writer.specs.Numbers.{number_of}
use Rattle.tree_writer.specs.Trees.{schema_count, tree_count}
use Rattle.db_builder.specs.declared.databases.OutDb.{OutDb}
use Rattle.db_builder.specs.Header.{header_bytes}
use Rattle.db_builder.specs.Trees.{Label, Tree, trees_of}

-- the number of the lock-byte page, which holds byte 2^30 of a file (fileformat2.html, 1.4)
abbrev pub lock_of : ℕ → ℕ
lock_of size = 2 ^ 30 / size + 1

-- the number of the first page of a tree, where so many pages of trees come before it: from 2 on, without
-- the lock-byte page
abbrev pub start_of : ℕ → ℕ → ℕ
start_of size before = number_of 2 (lock_of size) before

-- a tree with the number of its first page
pub record Placed : Type 0 where
  pub start : ℕ
  pub tree : Tree

-- trees one after another, so many pages behind the first
abbrev pub placed : ℕ → ℕ → List Tree → List Placed
placed size before [] = []
placed size before (t ∷ ts) =
    record { start = start_of size before; tree = t } ∷ placed size (before + tree_count size t.kind t.entries) ts

-- the number of a page of a tree
abbrev pub number_in : ℕ → Placed → ℕ → ℕ
number_in size p = number_of p.start (lock_of size)

-- the number of a tree's root
abbrev pub root_of : ℕ → Placed → ℕ
root_of size p = number_in size p (tree_line size p.tree.kind 0 p.tree.entries).right

-- the five values of a row of the schema (fileformat2.html, 2.6)
abbrev pub row_values : Label → ℕ → List Value
row_values l root = Text l.type_name ∷ Text l.name ∷ Text l.table ∷ Whole (pos root) ∷ l.sql ∷ []

-- the record of a tree's row
abbrev pub schema_record : ℕ → Placed → List ℕ
schema_record size p = record_bytes (row_values p.tree.label (root_of size p))

-- records with the rowids 1, 2, 3 and so on
abbrev pub numbered : ℕ → List (List ℕ) → List Entry
numbered k [] = []
numbered k (bytes ∷ more) = record { rowid = Some (pos k); bytes = bytes } ∷ numbered (k + 1) more

-- the entries of the schema's tree
abbrev pub schema_entries : ℕ → List Tree → List Entry
schema_entries size trees = numbered 1 (map (schema_record size) (placed size 0 trees))

-- zeros in place of the lock-byte page, before the page behind it
abbrev pub gap : ℕ → ℕ → List ℕ
gap size number = if number == lock_of size + 1 then replicate size 0 else []

-- pages one after another, the first with index k
abbrev pub paged : ℕ → (ℕ → ℕ) → ℕ → List (List ℕ) → List ℕ
paged size number k [] = []
paged size number k (page ∷ pages) = gap size (number k) ++ (page ++ paged size number (k + 1) pages)

-- the bytes of a tree
abbrev pub tree_bytes : ℕ → Placed → List ℕ
tree_bytes size p =
    paged size (number_in size p) 0 (tree_pages size p.tree.kind (number_in size p) p.tree.entries)

-- the number of pages that are not page 1 or the schema's
abbrev pub pages_of_trees : ℕ → List Tree → ℕ
pages_of_trees size trees = sum_by (λ (t : Tree). tree_count size t.kind t.entries) trees

-- how many pages are written, but for zeros in place of the lock-byte page
abbrev pub page_total : ℕ → List Tree → ℕ
page_total size trees = pages_of_trees size trees + schema_count size (schema_entries size trees)

-- the number of the last page, and so the number of pages
abbrev pub last_page : ℕ → List Tree → ℕ
last_page size trees = number_of 1 (lock_of size) (page_total size trees - 1)

abbrev pub header_of : ℕ → OutDb → List ℕ
header_of size db = header_bytes (record {
  size = size;
  pages = last_page size (trees_of db.tables.items);
  user_version = db.user_version;
  application_id = db.application_id;
})

-- the pages of the schema's tree, of which the first begins with the header; the others are numbered behind
-- those of all other trees
abbrev pub pages_of_schema : ℕ → OutDb → List (List ℕ)
pages_of_schema size db = let trees = trees_of db.tables.items in
    schema_pages (header_of size db) size (number_of (start_of size (pages_of_trees size trees)) (lock_of size))
    (schema_entries size trees)

-- page 1, then the trees in order, then the other pages of the schema
unfoldable pub layout : ℕ → OutDb → List ℕ
layout size db = let trees = trees_of db.tables.items in
    slice_index_or (pages_of_schema size db) 0 [] ++ (flat_map (tree_bytes size) (placed size 0 trees)
    ++ paged size (number_of (start_of size (pages_of_trees size trees)) (lock_of size)) 0
    (drop 1 (pages_of_schema size db)))
