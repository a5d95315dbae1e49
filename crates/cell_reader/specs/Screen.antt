-- Accepted cells of a page, and what they name (docs/FORMAT.md, "Accepted cells"; fileformat2.html, 1.6).
use Rattle.std.specs.Prelude.{◌≤◌, ◌⊎◌, ℕ, zero, suc, ◌+◌, nat_le, Bool, ◌||◌, if◌then◌else◌, Option, Result, Ok, Err, List, [], ◌∷◌, ◌++◌, option_to_list}
use Rattle.std.specs.List.{AllByRecursion, flat_map, list_all}
use Rattle.cell_reader.specs.declared.shapes.PageShape.{PageShape}
use Rattle.cell_reader.specs.declared.cells.CellView.{CellView}
use Rattle.cell_reader.specs.declared.cells.CellFault.{CellFault}
use Rattle.cell_reader.specs.Cell.{cell_of}
use Rattle.cell_reader.specs.Shape.{right_of}

-- what becomes of a cell: it is accepted, its bytes have a fault, or it overlaps an accepted cell
pub data Verdict : Type 0 where
  Accepts : CellView → Verdict
  Faulty : CellFault → Verdict
  Overlaps : Verdict

-- the ranges of two cells share no byte
abbrev pub are_apart : CellView → CellView → Bool
are_apart v w = nat_le v.end w.start || nat_le w.end v.start

-- the verdict on a cell, where `held` are the accepted cells before it
abbrev pub verdict_on : Result CellView CellFault → List CellView → Verdict
verdict_on (Err fault) held = Faulty fault
verdict_on (Ok v) held = if list_all (are_apart v) held then Accepts v else Overlaps

-- the accepted cells up to a cell with this verdict
abbrev pub held_with : Verdict → List CellView → List CellView
held_with (Accepts v) held = v ∷ held
held_with (Faulty fault) held = held
held_with Overlaps held = held

-- the verdicts on n cells from cell i on, where `held` are the accepted cells before them
abbrev pub screened_from : (ℕ → Result CellView CellFault) → ℕ → ℕ → List CellView → List Verdict
screened_from cell zero i held = []
screened_from cell (suc n) i held =
    verdict_on (cell i) held ∷ screened_from cell n (i + 1) (held_with (verdict_on (cell i) held) held)

-- the verdicts on all cells, in cell order
abbrev pub screened : (ℕ → Result CellView CellFault) → ℕ → List Verdict
screened cell count = screened_from cell count 0 []

-- the verdicts on the cells of a page with this shape, in a file of that many pages
unfoldable pub verdicts : List ℕ → ℕ → ℕ → PageShape → List Verdict
verdicts page usable pages shape = screened (cell_of page usable pages shape) shape.cells

-- the accepted cells among those from cell i on, each with its number
abbrev pub accepted_from : ℕ → List Verdict → List (ℕ × CellView)
accepted_from i [] = []
accepted_from i (Accepts v ∷ rest) = (i, v) ∷ accepted_from (i + 1) rest
accepted_from i (Faulty fault ∷ rest) = accepted_from (i + 1) rest
accepted_from i (Overlaps ∷ rest) = accepted_from (i + 1) rest

-- the accepted cells of a page with this shape in cell order, each with its number
abbrev pub accepted_cells : List ℕ → ℕ → ℕ → PageShape → List (ℕ × CellView)
accepted_cells page usable pages shape = accepted_from 0 (verdicts page usable pages shape)

-- the page numbers that an interior page names: the child of each accepted cell, and then the
-- right-most pointer
unfoldable pub pointers_in : List ℕ → ℕ → ℕ → PageShape → List ℕ
pointers_in page usable pages shape = if shape.leaf then [] else
    flat_map (λ c. option_to_list c.1.child) (accepted_cells page usable pages shape)
    ++ option_to_list (right_of page shape)

-- two cells share no byte: one ends before the other begins
abbrev pub IsApart : ℕ × CellView → ℕ × CellView → Type 0
IsApart a b = (a.1.end ≤ b.1.start) ⊎ (b.1.end ≤ a.1.start)

-- no two of the cells share a byte
abbrev pub AreApart : List (ℕ × CellView) → Type 0
AreApart [] = Unit {0}
AreApart (a ∷ rest) = AllByRecursion (IsApart a) rest × AreApart rest
