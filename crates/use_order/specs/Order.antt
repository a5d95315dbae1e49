-- The uses of pages in order: the schema, the trees of its tables, those of its indexes, and the chains of the tables'
-- cells (docs/ARCHITECTURE.md, "Order of use").
use Rattle.std.specs.Prelude.{◌≡◌, ◌<◌, ℕ, ◌+◌, Bool, true, false, if◌then◌else◌, Option, Some, List, [], ◌∷◌, ◌++◌, length, map}
use Rattle.std.specs.List.{AllByRecursion, flat_map}
use Rattle.cell_reader.specs.declared.shapes.Kind.{Kind}
use Rattle.cell_reader.specs.declared.shapes.Kind.TheVariants as kinds
use Rattle.page_access.specs.Pages.{File}
use Rattle.page_lists.specs.Lists.{IsPartOf, minus}
use Rattle.page_lists.specs.Table.{Table, all_moved, unused}
use Rattle.overflow_chain.specs.declared.TheConstants.{OVERFLOW_LIST}
use Rattle.page_walk.specs.Cells.{Outcome, row_of}
use Rattle.page_walk.specs.Turns.{chains_on}
use Rattle.page_walk.specs.Walk.{kinds_of}
use Rattle.raw_schema.specs.Schema.{after_schema, bad_rows, schema_notes, schema_pages, schema_rows}
use Rattle.raw_schema.specs.declared.reading.RawSchema.{RawSchema}
use Rattle.raw_schema.specs.declared.rows.SchemaKind.{SchemaKind}
use Rattle.raw_schema.specs.declared.rows.SchemaKind.TheVariants as sorts
use Rattle.raw_schema.specs.declared.rows.SchemaRow.{SchemaRow}
use Rattle.table_shape.specs.Seen.{shape_seen}
use Rattle.tree_uses.specs.Trees.{IsTreeOf, Tree, chains_in, pages_in, tree_of, tree_row, turns_in, walks, wanted_row}
use Rattle.tree_uses.specs.declared.walks.TreeUse.{TreeUse}
use Rattle.tree_uses.specs.declared.walks.WantedTree.{WantedTree}
use Rattle.schema_texts.specs.Readings.{AreReadings, kind_of}
use Rattle.schema_texts.specs.declared.readings.Reading.{Reading}
use Rattle.schema_texts.specs.declared.readings.Reading.TheVariants as readings
use Rattle.schema_texts.specs.declared.readings.TableReading.{TableReading}
use Rattle.use_order.specs.declared.TheConstants.{INDEX_LIST, TABLE_LIST}
use Rattle.use_order.specs.declared.uses.FileUses.{FileUses}

-- unused pages moved to the lists of their uses
pub record UsesMove (old new : Table) : Type 0 where
  pub same_pages : new.pages ≡ old.pages
  pub same_lists : length new.lists ≡ length old.lists
  pub left : IsPartOf (unused new) (unused old)

-- the pages of the schema's tree are unused ones, each once; and so are those of the trees of its tables and indexes together
pub record HaveUnused (unused : List ℕ) (u : FileUses) : Type 0 where
  pub schema : IsPartOf u.schema.pages.items unused
  pub trees : IsPartOf (pages_in (map tree_of u.tables.items) ++ pages_in (map tree_of u.indexes.items)) unused

-- trees of pages of the file
abbrev pub AreTreesOf : ℕ → List TreeUse → Type 0
AreTreesOf pages trees = AllByRecursion (IsTreeOf pages) (map tree_of trees)

-- the schema is that of the file, where these pages are unused at first
pub record IsSchema (f : File) (unused : List ℕ) (s : RawSchema) : Type 0 where
  pub rows_are : s.rows.items ≡ schema_rows f unused
  pub bad_are : map row_of s.bad.items ≡ bad_rows f unused
  pub pages_are : s.pages.items ≡ schema_pages f unused
  pub notes_are : s.notes.items ≡ schema_notes f unused

-- ---- the trees that are wanted

-- the kind of the pages of a table's tree
abbrev pub kind_read : Reading → Option Kind
kind_read (readings.Shape shape) = Some (kind_of (shape_seen shape))
kind_read (readings.Unread cause kind) = kind

-- the tree of a table row
abbrev pub table_tree : TableReading → WantedTree
table_tree r = record { row = r.row; root = r.root; kind = kind_read r.reading }

abbrev pub is_index : SchemaKind → Bool
is_index sorts.Table = false
is_index sorts.Index = true
is_index sorts.View = false
is_index sorts.Trigger = false

-- the trees of the index rows among rows of the schema that are counted from i on
abbrev pub index_trees : ℕ → List SchemaRow → List WantedTree
index_trees i [] = []
index_trees i (row ∷ rows) =
    (if is_index row.kind then record { row = i; root = row.root; kind = Some kinds.Index } ∷ [] else []) ++ index_trees (i + 1) rows

-- the row of the schema that a reading is of
abbrev pub reading_row : TableReading → ℕ
reading_row r = r.row

-- each tree is that of one of `rows` rows
abbrev pub AreBelow : ℕ → List Tree → Type 0
AreBelow rows trees = AllByRecursion (λ (t : Tree). t.row < rows) trees

-- there is a tree for each reading and one for each index row, each with the number of its row, and what becomes of the
-- cells of each table's tree
pub record AreMatched (rows : List SchemaRow) (rs : List TableReading) (tables indexes : List Tree)
    (turns : List (List (ℕ × List Outcome))) : Type 0 where
  pub tables_are : map tree_row tables ≡ map reading_row rs
  pub indexes_are : map tree_row indexes ≡ map wanted_row (index_trees 0 rows)
  pub tables_below : AreBelow (length rows) tables
  pub indexes_below : AreBelow (length rows) indexes
  pub turns_are : length turns ≡ length tables

-- ---- the order

-- the pages that the schema leaves unused: its tree and the chains of its cells have theirs
abbrev pub behind_schema : File → List ℕ → List ℕ
behind_schema f unused = minus (minus unused (schema_pages f unused))
    (chains_on f (schema_pages f unused) (minus unused (schema_pages f unused)))

-- The schema's rows and what their texts say; the trees of the table rows, over the pages that the schema leaves; the trees of
-- the index rows, over those that the tables leave; and then the turns of the tables' cells.
pub record AreInOrder (f : File) (unused : List ℕ) (rows : List SchemaRow) (rs : List TableReading) (tables indexes : List Tree)
    (turns : List (List (ℕ × List Outcome))) : Type 0 where
  pub rows_are : rows ≡ schema_rows f unused
  pub readings : AreReadings (kinds_of f) f.pages rows rs
  pub tables_are : tables ≡ walks f TABLE_LIST (map table_tree rs) (behind_schema f unused)
  pub indexes_are : indexes ≡ walks f INDEX_LIST (index_trees 0 rows) (minus (behind_schema f unused) (pages_in tables))
  pub turns_are : turns ≡ turns_in f tables (minus (minus (behind_schema f unused) (pages_in tables)) (pages_in indexes))

-- the pages that are left unused behind all these
abbrev pub behind_uses : File → List ℕ → List Tree → List Tree → List (List (ℕ × List Outcome)) → List ℕ
behind_uses f unused tables indexes turns =
    minus (minus (minus (behind_schema f unused) (pages_in tables)) (pages_in indexes)) (flat_map chains_in turns)

-- the table after each page with a use moved to the list of its use
abbrev pub after_uses : File → Table → List Tree → List Tree → List (List (ℕ × List Outcome)) → Table
after_uses f t tables indexes turns = all_moved (flat_map chains_in turns) OVERFLOW_LIST
    (all_moved (pages_in indexes) INDEX_LIST (all_moved (pages_in tables) TABLE_LIST (after_schema f t)))
