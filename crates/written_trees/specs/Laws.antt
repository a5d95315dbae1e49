-- Written cells, pages and trees are read back (docs/FORMAT.md, "Layout of a written file").
use Rattle.std.specs.Prelude.{◌≡◌, ◌≢◌, ◌≤◌, ◌<◌, ℕ, ◌^◌, ◌+◌, ◌-◌, ◌*◌, Bool, true, Some, Ok, List, ◌∷◌, ◌++◌, length, map}
use Rattle.std.specs.List.{AllByRecursion}
use Rattle.page_access.specs.Pages.{File, page_at}
use Rattle.page_lists.specs.Table.{is_page}
use Rattle.cell_reader.specs.declared.shapes.Kind.{Kind}
use Rattle.cell_reader.specs.declared.shapes.Kind.TheVariants.{Table}
use Rattle.cell_reader.specs.Cell.{cell_parts}
use Rattle.cell_reader.specs.Shape.{head_of}
use Rattle.tree_forms.specs.Node.{node_of}
use Rattle.tree_writer.specs.Cells.{Laid, cell_bytes, overs}
use Rattle.tree_writer.specs.Entry.{Entry, leaf_item}
use Rattle.tree_writer.specs.Layout.{schema_pages, tree_pages}
use Rattle.tree_writer.specs.Levels.{tree_line}
use Rattle.tree_writer.specs.Numbers.{number_of}
use Rattle.tree_writer.specs.Trees.{schema_count, tree_count}
use Rattle.written_trees.specs.Trees.{ArePageNumbers, CanHold, HasPagesAt, IsTreeOf, first_then, numbers}
use Rattle.written_trees.specs.Written.{IsPage, IsWritten, laid_node, laid_page, parts_in}

-- a written cell is read back, whatever follows it
abbrev pub CellsReadBack : Type 0
CellsReadBack = (usable limit : ℕ) (kind : Kind) (leaf : Bool) (c : Laid) (rest : List ℕ) → 480 ≤ usable → IsWritten limit kind leaf c
    → cell_parts usable limit kind leaf (cell_bytes usable kind leaf c ++ rest) ≡ Ok (parts_in usable kind leaf c)

-- a written page of a file says its cells and its right-most child
abbrev pub PagesSayTheirCells : Type 0
PagesSayTheirCells = (f : File) (p : ℕ) (front : List ℕ) (kind : Kind) (leaf : Bool) (cells : List Laid) (right : ℕ)
    → 480 ≤ f.usable → f.usable ≤ 65536 → is_page f.pages p ≡ true → length front ≡ head_of p
    → IsPage (head_of p) f.usable (f.pages * f.usable) kind leaf cells right
    → page_at f p ≡ laid_page front f.usable kind leaf cells right
    → node_of f p ≡ Some (laid_node f.usable kind leaf cells right)

-- the pages of a table's or an index's tree, where a file has them, are a well-formed tree of its entries
abbrev pub PagesAreTree : Type 0
PagesAreTree = (f : File) (kind : Kind) (number : ℕ → ℕ) (es : List Entry) → CanHold f kind number (tree_count f.usable kind es) es
    → HasPagesAt f number (tree_pages f.usable kind number es)
    → IsTreeOf f kind (number (tree_line f.usable kind 0 es).right) es (numbers number 0 (tree_count f.usable kind es))

-- so are the pages of the schema's tree, whose root is page 1
abbrev pub SchemaIsTree : Type 0
SchemaIsTree = (f : File) (front : List ℕ) (number : ℕ → ℕ) (es : List Entry) → length front ≡ 100 → 1 ≤ f.pages
    → CanHold f Table number (schema_count f.usable es - 1) es → HasPagesAt f (first_then number) (schema_pages front f.usable number es)
    → IsTreeOf f Table 1 es (1 ∷ numbers number 0 (schema_count f.usable es - 1))

-- a tree has at most two pages for each entry and one more, its overflow pages apart
abbrev pub PagesAreFew : Type 0
PagesAreFew = (usable : ℕ) (kind : Kind) (es : List Entry) → 480 ≤ usable
    → tree_count usable kind es ≤ 2 * length es + 1 + overs usable kind (map leaf_item es)

abbrev pub SchemaPagesAreFew : Type 0
SchemaPagesAreFew = (usable : ℕ) (es : List Entry) → 480 ≤ usable
    → schema_count usable es ≤ 2 * length es + 1 + overs usable Table (map leaf_item es)

-- the numbers of a numbering behind page 1 can number the pages of a tree, and none is the lock page's
abbrev pub NumbersServe : Type 0
NumbersServe = (f : File) (start lock total : ℕ) → 2 ≤ start → start + total < 2 ^ 32 - 1
    → ((k : ℕ) → k < total → number_of start lock k ≤ f.pages)
    → ArePageNumbers f (number_of start lock) total × ((k : ℕ) → number_of start lock k ≢ lock)

-- each page of a written tree has as many bytes as are usable
abbrev pub PagesAreFull : Type 0
PagesAreFull = (usable : ℕ) (kind : Kind) (number : ℕ → ℕ) (es : List Entry) → 480 ≤ usable → usable ≤ 65536
    → AllByRecursion (λ (page : List ℕ). length page ≡ usable) (tree_pages usable kind number es)

abbrev pub SchemaPagesAreFull : Type 0
SchemaPagesAreFull = (front : List ℕ) (usable : ℕ) (number : ℕ → ℕ) (es : List Entry) → length front ≡ 100 → 480 ≤ usable → usable ≤ 65536
    → AllByRecursion (λ (page : List ℕ). length page ≡ usable) (schema_pages front usable number es)
