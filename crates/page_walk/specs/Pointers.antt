-- The page numbers that a page names (docs/FORMAT.md, "Pages and cells"; fileformat2.html, 1.6).
use Rattle.std.specs.Prelude.{ℕ, Option, Some, None, Result, Ok, Err, List, [], ◌∷◌, ◌++◌, option_to_list}
use Rattle.std.specs.List.{flat_map}
use Rattle.page_access.specs.Pages.{File, page_at}
use Rattle.cell_reader.specs.declared.shapes.PageShape.{PageShape}
use Rattle.cell_reader.specs.declared.cells.CellView.{CellView}
use Rattle.page_walk.specs.declared.causes.CellCause.{CellCause}
use Rattle.cell_reader.specs.Screen.{Verdict, Accepts, Faulty, Overlaps, accepted_cells, pointers_in}
use Rattle.page_walk.specs.Page.{shape_on}

-- the children of the accepted cells among those with these verdicts, in cell order
abbrev pub children_by : List Verdict → List ℕ
children_by [] = []
children_by (Accepts v ∷ rest) = option_to_list v.child ++ children_by rest
children_by (Faulty fault ∷ rest) = children_by rest
children_by (Overlaps ∷ rest) = children_by rest

-- the child that a cell names, where it is accepted
abbrev pub child_by : Result CellView CellCause → Option ℕ
child_by (Ok v) = v.child
child_by (Err cause) = None

-- the children of the accepted cells of a page with this shape, in cell order
abbrev pub children_in : List ℕ → ℕ → ℕ → PageShape → List ℕ
children_in page usable pages shape =
    flat_map (λ c. option_to_list c.1.child) (accepted_cells page usable pages shape)

-- the page numbers that page p names, where it has this shape
abbrev pub pointers_with : File → ℕ → Option PageShape → List ℕ
pointers_with f p None = []
pointers_with f p (Some shape) = pointers_in (page_at f p) f.usable f.pages shape

-- the page numbers that page p of a file names: on an interior page the child of each accepted cell in
-- cell order, and then the right-most pointer
abbrev pub pointers_on : File → ℕ → List ℕ
pointers_on f p = pointers_with f p (shape_on f p)
