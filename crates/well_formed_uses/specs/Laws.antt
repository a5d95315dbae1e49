-- What holds of the uses of the pages of every well-formed file (docs/ARCHITECTURE.md, "Order of use";
-- docs/FORMAT.md, "A well-formed file").
use Rattle.std.specs.Prelude.{◌≡◌, ◌≤◌, ℕ, ◌+◌, true, if◌then◌else◌, None, List, [], length, map}
use Rattle.std.specs.List.{AllByRecursion, concat, flat_map}
use Rattle.page_access.specs.Files.{max_input}
use Rattle.page_access.specs.Pages.{File}
use Rattle.page_lists.specs.Lists.{count, is_in, minus}
use Rattle.page_lists.specs.Table.{Table, is_page, unused}
use Rattle.cell_reader.specs.declared.shapes.Kind.{Kind}
use Rattle.tree_forms.specs.Node.{Held}
use Rattle.well_formed.specs.Stored.{IsStored}
use Rattle.page_size.specs.Fields.{header_of}
use Rattle.page_walk.specs.Cells.{Outcome}
use Rattle.page_walk.specs.Walk.{kind_on}
use Rattle.freelist_core.specs.Free as free
use Rattle.orphan_trees.specs.Orphans.{orphan_trees}
use Rattle.raw_schema.specs.declared.rows.SchemaRow.{SchemaRow}
use Rattle.raw_schema.specs.Schema.{bad_rows, schema_notes, schema_pages, schema_rows}
use Rattle.schema_texts.specs.declared.readings.TableReading.{TableReading}
use Rattle.tree_uses.specs.Trees.{Tree, chains_in, pages_in, pages_of}
use Rattle.use_order.specs.Laws.{schema_chains, times_used}
use Rattle.use_order.specs.Order.{AreInOrder, after_uses, behind_schema}
use Rattle.well_formed.specs.Database.{Database}
use Rattle.well_formed.specs.Freelist.{free_pages}
use Rattle.well_formed.specs.Header.{file_in, lock_pages}
use Rattle.well_formed.specs.Spells.{IsWellFormed, all_keys}
use Rattle.well_formed_uses.specs.Rows.{all_unplaced}
use Rattle.well_formed_uses.specs.Trees.{IsGrown, IsTreeWith, StoredTree, own_chains, own_pages}

-- each stored tree is a tree that a walk meets
abbrev pub StoredAreTrees : Type 0
StoredAreTrees = (f : File) (kind : Kind) (p : ℕ) (cells : List Held) (used : List ℕ)
    → IsStored f kind p cells used → (t : StoredTree) × IsTreeWith f kind p cells used t

-- the unused pages are all pages of the file, each once
abbrev pub AreAll : ℕ → List ℕ → Type 0
AreAll pages unused = (q : ℕ) → count q unused ≡ (if is_page pages q then 1 else 0)

-- a well-formed file, and the uses of its pages in order, where all of them are unused at first
pub record IsUsed (bytes : List ℕ) (db : Database) : Type 0 where
  pub formed : IsWellFormed bytes db
  pub unused : List ℕ
  pub rows : List SchemaRow
  pub readings : List TableReading
  pub tables : List Tree
  pub indexes : List Tree
  pub turns : List (List (ℕ × List Outcome))
  pub all : AreAll (file_in bytes).pages unused
  pub order : AreInOrder (file_in bytes) unused rows readings tables indexes turns

-- the pages that are left when the tables' cells had their turns
abbrev pub left_unused : {bytes : List ℕ} {db : Database} → IsUsed bytes db → List ℕ
left_unused {bytes} {db} s =
    minus (minus (minus (behind_schema (file_in bytes) s.unused) (pages_in s.tables)) (pages_in s.indexes))
    (flat_map chains_in s.turns)

-- these are the unused pages of a table of page lists, when each page with a use moved to the list of its use
abbrev pub LeftAreUnused : Type 0
LeftAreUnused = (bytes : List ℕ) (db : Database) (s : IsUsed bytes db) (t : Table) → unused t ≡ s.unused
    → unused (after_uses (file_in bytes) t s.tables s.indexes s.turns) ≡ left_unused s

-- the rows of the schema are found, and nothing else is in its tree
pub record FindsSchema (f : File) (unused : List ℕ) (rows : List SchemaRow) : Type 0 where
  pub rows_are : all_unplaced (schema_rows f unused) ≡ rows
  pub none_bad : bad_rows f unused ≡ []
  pub none_unread : schema_notes f unused ≡ []

-- Each use takes its own pages, whatever the texts are: those of the schema's tree with its overflow pages;
-- those of the trees of the tables with the overflow pages of their cells; and those of the trees of the index
-- rows, whose overflow pages are left, with the free pages and the lock-byte page.
pub record TakesOwn (bytes : List ℕ) (db : Database) (s : IsUsed bytes db) : Type 0 where
  pub schema : (q : ℕ) → count q (schema_pages (file_in bytes) s.unused)
      + count q (schema_chains (file_in bytes) s.unused) ≡ count q s.formed.schema_used
  pub found : FindsSchema (file_in bytes) s.unused s.formed.rows
  pub tables_are : (q : ℕ) → count q (pages_in s.tables) + count q (flat_map chains_in s.turns)
      ≡ count q (concat s.formed.tables_used)
  pub index_trees : List StoredTree
  pub grown : AllByRecursion (IsGrown (file_in bytes)) index_trees
  pub indexes_are : map pages_of s.indexes ≡ map (own_pages (file_in bytes)) index_trees
  pub index_used : (q : ℕ) → count q (concat (all_keys s.formed.keys_used))
      + count q (concat s.formed.others_used)
      ≡ count q (pages_in s.indexes) + count q (flat_map (own_chains (file_in bytes)) index_trees)
  -- all uses together
  pub times : (q : ℕ) → times_used (file_in bytes) s.unused s.tables s.indexes s.turns q
      ≡ count q s.formed.schema_used + (count q (concat s.formed.tables_used) + count q (pages_in s.indexes))
  pub left : (q : ℕ) → count q (left_unused s) ≡ count q (flat_map (own_chains (file_in bytes)) index_trees)
      + (count q (free_pages (file_in bytes) s.formed.trunks) + count q (lock_pages (file_in bytes)))

-- so it is in each well-formed file
abbrev pub UsesTakeOwn : Type 0
UsesTakeOwn = (bytes : List ℕ) (db : Database) (s : IsUsed bytes db) → TakesOwn bytes db s

-- the pages that the freelist leaves, where it takes its own
abbrev pub left_over : {bytes : List ℕ} {db : Database} → IsUsed bytes db → List ℕ
left_over {bytes} {db} s = minus (left_unused s) (free_pages (file_in bytes) s.formed.trunks)

-- The freelist takes exactly its trunks with their leaves; no page that it leaves has a shape, so there is no
-- orphan tree.
pub record LeavesNone (bytes : List ℕ) (db : Database) (s : IsUsed bytes db) : Type 0 where
  pub free : free.free_pages (file_in bytes) (left_unused s) (header_of bytes).first_trunk
      ≡ free_pages (file_in bytes) s.formed.trunks
  pub shapeless : (q : ℕ) → is_in q (left_over s) ≡ true → kind_on (file_in bytes) q ≡ None
  pub none : orphan_trees (file_in bytes) (left_over s) ≡ []

-- so it is in each well-formed file of at most 2^28 bytes, when the tables' cells had their turns
abbrev pub NoneIsLeft : Type 0
NoneIsLeft = (bytes : List ℕ) (db : Database) (s : IsUsed bytes db) → length bytes ≤ max_input
    → LeavesNone bytes db s
