-- The verdicts on the cells of a page of a file (docs/FORMAT.md, "Readable cells"; fileformat2.html, 1.6).
use Rattle.std.specs.Prelude.{ℕ, Option, Some, None, Result, Ok, Err, List, []}
use Rattle.page_access.specs.Pages.{File, page_at}
use Rattle.cell_reader.specs.declared.shapes.PageShape.{PageShape}
use Rattle.cell_reader.specs.declared.cells.CellView.{CellView}
use Rattle.cell_reader.specs.declared.cells.CellFault.{CellFault}
use Rattle.cell_reader.specs.declared.cells.CellFault.TheVariants.{Pointer as pointer, Cut as cut, Length as len}
use Rattle.cell_reader.specs.Shape.{shape_of}
use Rattle.cell_reader.specs.Screen.{Verdict, Accepts, Faulty, Overlaps, verdicts}
use Rattle.page_walk.specs.declared.causes.CellCause.{CellCause}
use Rattle.page_walk.specs.declared.causes.CellCause.TheVariants.{Pointer, Cut, Length, Overlap}

-- the shape of page p of a file, or None
abbrev pub shape_on : File → ℕ → Option PageShape
shape_on f p = shape_of (page_at f p) p f.usable

-- the verdicts on the cells of page p, where it has this shape
abbrev pub verdicts_in : File → ℕ → Option PageShape → List Verdict
verdicts_in f p None = []
verdicts_in f p (Some shape) = verdicts (page_at f p) f.usable f.pages shape

-- the verdicts on the cells of page p of a file; none where it has no shape
abbrev pub verdicts_on : File → ℕ → List Verdict
verdicts_on f p = verdicts_in f p (shape_on f p)

-- the cause that a fault of a cell is
abbrev pub cause_of : CellFault → CellCause
cause_of pointer = Pointer
cause_of cut = Cut
cause_of len = Length

-- a verdict as a result: the accepted cell, or why the cell is not accepted
abbrev pub screened_as : Verdict → Result CellView CellCause
screened_as (Accepts v) = Ok v
screened_as (Faulty fault) = Err (cause_of fault)
screened_as Overlaps = Err Overlap
