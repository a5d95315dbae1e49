-- What a page says is what its accepted cells say (docs/FORMAT.md, "Accepted cells").
use Rattle.std.specs.Prelude.{◌≡◌, ℕ, true, Option, Some, List, map, length}
use Rattle.page_access.specs.Pages.{File, page_at}
use Rattle.page_lists.specs.Table.{is_page}
use Rattle.cell_reader.specs.declared.shapes.PageShape.{PageShape}
use Rattle.cell_reader.specs.declared.cells.CellView.{CellView}
use Rattle.cell_reader.specs.Screen.{Verdict, Accepts, verdicts}
use Rattle.cell_reader.specs.Shape.{right_of, shape_of}
use Rattle.tree_forms.specs.Node.{Held, Node, held_of, node_of}

-- what a page says is read off its shape and its cells, all of which are accepted
pub record IsRead (f : File) (p : ℕ) (n : Node) : Type 0 where
  pub there : is_page f.pages p ≡ true
  pub shape : PageShape
  pub has_shape : shape_of (page_at f p) p f.usable ≡ Some shape
  pub kind_is : shape.kind ≡ n.kind
  pub leaf_is : shape.leaf ≡ n.leaf
  pub views : List CellView
  pub kept : verdicts (page_at f p) f.usable f.pages shape ≡ map Accepts views
  pub cells_are : n.cells ≡ map (held_of (page_at f p)) views
  pub right_is : n.right ≡ right_of (page_at f p) shape

-- a page of a file that says something is so read
abbrev pub SaysAccepted : Type 0
SaysAccepted = (f : File) (p : ℕ) (n : Node) → node_of f p ≡ Some n → IsRead f p n
