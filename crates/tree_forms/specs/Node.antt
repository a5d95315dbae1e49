-- What a page of a tree says, wherever its cells stand (docs/FORMAT.md, "Pages and cells"; fileformat2.html, 1.6).
use Rattle.std.specs.Prelude.{ℕ, Bool, true, false, ℤ, if◌then◌else◌, Option, Some, None, List, [], ◌∷◌}
use Rattle.std.specs.List.{slice_range}
use Rattle.page_access.specs.Pages.{File, page_at}
use Rattle.page_lists.specs.Table.{is_page}
use Rattle.cell_reader.specs.declared.shapes.Kind.{Kind}
use Rattle.cell_reader.specs.declared.shapes.PageShape.{PageShape}
use Rattle.cell_reader.specs.declared.cells.CellView.{CellView}
use Rattle.cell_reader.specs.Screen.{Verdict, Accepts, Faulty, Overlaps, verdicts}
use Rattle.cell_reader.specs.Shape.{right_of, shape_of}

-- what a cell says: the child that it names, its rowid or key, and its payload's length, local bytes and
-- first overflow page; the key cell of an interior table page has a payload of no bytes
pub record Held : Type 0 where
  pub child : Option ℕ
  pub rowid : Option ℤ
  pub total : ℕ
  pub local : List ℕ
  pub overflow : Option ℕ

-- what a page says: its kind, its cells in cell order, and the right-most child of an interior page
pub record Node : Type 0 where
  pub kind : Kind
  pub leaf : Bool
  pub cells : List Held
  pub right : Option ℕ

-- what a cell at its place on a page says
abbrev pub held_of : List ℕ → CellView → Held
held_of page v = record {
  child = v.child;
  rowid = v.rowid;
  total = v.total;
  local = slice_range page v.local_start v.local_end;
  overflow = v.overflow;
}

-- one more cell, where the cells behind it say something
abbrev pub cons_of : List ℕ → CellView → Option (List Held) → Option (List Held)
cons_of page v None = None
cons_of page v (Some rest) = Some (held_of page v ∷ rest)

-- what the cells of a page say: nothing where one of them is not accepted
abbrev pub said_by : List ℕ → List Verdict → Option (List Held)
said_by page [] = Some []
said_by page (Accepts v ∷ rest) = cons_of page v (said_by page rest)
said_by page (Faulty fault ∷ rest) = None
said_by page (Overlaps ∷ rest) = None

-- what a page with this shape and these cells says
abbrev pub node_with : List ℕ → PageShape → Option (List Held) → Option Node
node_with page s None = None
node_with page s (Some cells) =
    Some (record { kind = s.kind; leaf = s.leaf; cells = cells; right = right_of page s })

abbrev pub node_on : List ℕ → ℕ → ℕ → Option PageShape → Option Node
node_on page usable pages None = None
node_on page usable pages (Some s) = node_with page s (said_by page (verdicts page usable pages s))

-- what page p of a file says: nothing where the file has no such page, where the page has no shape, or
-- where one of its cells is not accepted
unfoldable pub node_of : File → ℕ → Option Node
node_of f p =
    if is_page f.pages p then node_on (page_at f p) f.usable f.pages (shape_of (page_at f p) p f.usable)
    else None

-- the cells of a page that says them
abbrev pub cells_in : Option Node → List Held
cells_in None = []
cells_in (Some n) = n.cells

abbrev pub number_in : Option ℕ → ℕ
number_in None = 0
number_in (Some q) = q

-- the right-most child of a page that says one
abbrev pub right_in : Option Node → ℕ
right_in None = 0
right_in (Some n) = number_in n.right

-- the child that a cell names
abbrev pub child_of : Held → ℕ
child_of h = number_in h.child
