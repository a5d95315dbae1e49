-- The schema of a file: its tree, and what its cells are (docs/FORMAT.md, "The schema"; fileformat2.html, 2.6;
-- docs/ARCHITECTURE.md, "Order of use").
use Rattle.std.specs.Prelude.{◌≤◌, ◌⊎◌, ℕ, ◌+◌, ◌*◌, pos, nat_lt, if◌then◌else◌, is_none, IfSome, Option, List, [], ◌∷◌, filter, length}
use Rattle.std.specs.List.{filter_map, flat_map}
use Rattle.page_access.specs.Files.{IsWhole}
use Rattle.page_access.specs.Pages.{File}
use Rattle.page_access.specs.declared.geometry.Geometry.{Geometry}
use Rattle.page_lists.specs.Lists.{minus}
use Rattle.page_lists.specs.Table.{Moves, MovesFront, Table, all_moved, list_at, unused}
use Rattle.cell_reader.specs.declared.shapes.Kind.TheVariants as kinds
use Rattle.overflow_chain.specs.declared.TheConstants.{OVERFLOW_LIST}
use Rattle.page_walk.specs.Cells.{Outcome, Row}
use Rattle.page_walk.specs.Rows.{notes_of, rows_of}
use Rattle.page_walk.specs.Turns.{chains_on, turns_on}
use Rattle.page_walk.specs.Walk.{walk}
use Rattle.page_walk.specs.declared.rows.PageNotes.{PageNotes}
use Rattle.raw_schema.specs.Rows.{entry_of}
use Rattle.raw_schema.specs.declared.TheConstants.{SCHEMA_LIST}
use Rattle.raw_schema.specs.declared.rows.SchemaRow.{SchemaRow}

-- the pages of the schema: the tree of table pages at page 1
abbrev pub schema_pages : File → List ℕ → List ℕ
schema_pages f unused = walk f unused (pos 1) kinds.Table

-- the cells of these pages at their turns, page by page
abbrev pub schema_turns : File → List ℕ → List (ℕ × List Outcome)
schema_turns f unused = turns_on f (schema_pages f unused) (minus unused (schema_pages f unused))

-- the readable cells of pages, in page order and then cell order
abbrev pub cells_in : List (ℕ × List Outcome) → List Row
cells_in turns = flat_map (λ (t : ℕ × List Outcome). rows_of t.1) turns

-- those that are rows of the schema
abbrev pub entries_in : List Row → List SchemaRow
entries_in cells = filter_map entry_of cells

-- and those that are not
abbrev pub bad_in : List Row → List Row
bad_in cells = filter (λ (row : Row). is_none (entry_of row)) cells

-- a page with what is noted of its unread cells, where it has any
abbrev pub noted : ℕ × List Outcome → List (ℕ × PageNotes)
noted t = if nat_lt 0 (notes_of t.1).unread then (t.0, notes_of t.1) ∷ [] else []

-- the rows of the schema, where these pages are unused at first
unfoldable pub schema_rows : File → List ℕ → List SchemaRow
schema_rows f unused = entries_in (cells_in (schema_turns f unused))

-- the readable cells of its tree that are no rows of the schema
unfoldable pub bad_rows : File → List ℕ → List Row
bad_rows f unused = bad_in (cells_in (schema_turns f unused))

-- the pages with unread cells
unfoldable pub schema_notes : File → List ℕ → List (ℕ × PageNotes)
schema_notes f unused = flat_map noted (schema_turns f unused)

-- the overflow pages that these cells take, in turn
abbrev pub schema_chains : File → List ℕ → List ℕ
schema_chains f unused = chains_on f (schema_pages f unused) (minus unused (schema_pages f unused))

-- the table after the schema's pages moved to their list
abbrev pub after_tree : File → Table → Table
after_tree f t = all_moved (schema_pages f (unused t)) SCHEMA_LIST t

-- and then the overflow pages of its cells to theirs
unfoldable pub after_schema : File → Table → Table
after_schema f t = all_moved (schema_chains f (unused t)) OVERFLOW_LIST (after_tree f t)

-- `new` is `old` after the first of the schema's pages, however many, moved to their list, or after all of them and
-- then the first of the overflow pages of its cells did
abbrev pub SchemaFront : File → Table → Table → Type 0
SchemaFront f old new = MovesFront (schema_pages f (unused old)) SCHEMA_LIST old new
    ⊎ MovesFront (schema_chains f (unused old)) OVERFLOW_LIST (after_tree f old) new

-- unused pages moved to the schema's list and then others to that of overflow pages, each once
pub record SchemaMoves (old new : Table) : Type 0 where
  pub between : Table
  pub tree : Moves SCHEMA_LIST old between
  pub chains : Moves OVERFLOW_LIST between new

-- there are two reads at most for each page that is no longer unused, and `more` besides, where the source tells
-- all pages
abbrev pub ReadsTwice : Option (List ℕ) → Geometry → Table → Table → ℕ → ℕ → ℕ → Type 0
ReadsTwice told geo old new before now more = IfSome told (λ all. IsWhole all geo →
    now + 2 * length (unused new) ≤ before + 2 * length (unused old) + more)

-- there is one read at most for each page that moved to the list of overflow pages, and `more` besides, where the source
-- tells all pages
abbrev pub ReadsChains : Option (List ℕ) → Geometry → Table → Table → ℕ → ℕ → ℕ → Type 0
ReadsChains told geo old new before now more = IfSome told (λ all. IsWhole all geo →
    now + length (list_at OVERFLOW_LIST old.lists) ≤ before + length (list_at OVERFLOW_LIST new.lists) + more)
