-- The bytes of a tree's pages (docs/FORMAT.md, "Layout of a written file").
use Rattle.std.specs.Prelude.{ℕ, Bool, ◌+◌, if◌then◌else◌, List, [], ◌∷◌, ◌++◌, map, sum_by}
use Rattle.byteorder.specs.Endian.{big_bytes}
use Rattle.cell_reader.specs.declared.shapes.Kind.{Kind}
use Rattle.cell_reader.specs.declared.shapes.Kind.TheVariants.{Table, Index}
use Rattle.tree_writer.specs.Entry.{Entry, Item}
use Rattle.tree_writer.specs.Cells.{cell_bytes, chains_from, laid_from, width_of}
use Rattle.tree_writer.specs.Page.{page_bytes, type_byte}
use Rattle.tree_writer.specs.Levels.{Sheet, pages_in, schema_sheets, schema_top, tree_sheets}

-- the cells of a page, where its overflow pages begin at index k
abbrev pub cells_for : ℕ → Kind → Bool → (ℕ → ℕ) → ℕ → List Item → List (List ℕ)
cells_for usable kind leaf number k items =
    map (cell_bytes usable kind leaf) (laid_from usable kind number k items)

-- the right-most pointer, on an interior page
abbrev pub right_part : Bool → (ℕ → ℕ) → ℕ → List ℕ
right_part leaf number right = if leaf then [] else big_bytes 4 (number right)

-- the bytes of a page behind `front`, where its overflow pages begin at index k
abbrev pub sheet_page : List ℕ → ℕ → Kind → (ℕ → ℕ) → ℕ → Sheet → List ℕ
sheet_page front usable kind number k s = page_bytes front (type_byte kind s.leaf) usable
    (cells_for usable kind s.leaf number k s.items)
    (right_part s.leaf number s.right)

-- a page of index k, and the overflow pages of its cells behind it
abbrev pub sheet_pages : ℕ → Kind → (ℕ → ℕ) → ℕ → Sheet → List (List ℕ)
sheet_pages usable kind number k s =
    sheet_page [] usable kind number (k + 1) s ∷ chains_from usable kind number (k + 1) s.items

-- pages of which the first has index k
abbrev pub pages_from : ℕ → Kind → (ℕ → ℕ) → ℕ → List Sheet → List (List ℕ)
pages_from usable kind number k [] = []
pages_from usable kind number k (s ∷ ss) = sheet_pages usable kind number k s
    ++ pages_from usable kind number (k + width_of usable kind s.items) ss

-- the pages of a table's or an index's tree
abbrev pub tree_pages : ℕ → Kind → (ℕ → ℕ) → List Entry → List (List ℕ)
tree_pages usable kind number es = pages_from usable kind number 0 (tree_sheets usable kind 0 es)

-- the pages of the schema's tree: page 1, which begins with `front`, and then the others, of which the
-- overflow pages of page 1 are the last
abbrev pub schema_pages : List ℕ → ℕ → (ℕ → ℕ) → List Entry → List (List ℕ)
schema_pages front usable number es =
    sheet_page front usable Table number (pages_in usable Table (schema_sheets usable es)) (schema_top usable es)
    ∷ (pages_from usable Table number 0 (schema_sheets usable es)
    ++ chains_from usable Table number (pages_in usable Table (schema_sheets usable es)) (schema_top usable es).items)
