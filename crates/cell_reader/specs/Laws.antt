-- What holds of the accepted cells of every page (docs/FORMAT.md, "Accepted cells").
use Rattle.std.specs.Prelude.{◌≡◌, ℕ, Bool, List, [], ◌∷◌, false, replicate}
use Rattle.std.specs.List.{list_all}
use Rattle.cell_reader.specs.declared.cells.CellView.{CellView}
use Rattle.cell_reader.specs.declared.shapes.PageShape.{PageShape}
use Rattle.cell_reader.specs.Cell.{cell_of}
use Rattle.cell_reader.specs.Cover.{Covers, IsRange, is_free, marked_from, with_range}
use Rattle.cell_reader.specs.Screen.{AreApart, accepted_cells, are_apart, verdicts}

-- no two accepted cells of a page share a byte
abbrev pub AcceptedAreApart : Type 0
AcceptedAreApart = (page : List ℕ) (usable pages : ℕ) (shape : PageShape)
    → AreApart (accepted_cells page usable pages shape)

-- a walk over the cells that marks the bytes of accepted ones gives each cell its verdict
abbrev pub MarksTellVerdicts : Type 0
MarksTellVerdicts = (page : List ℕ) (usable pages : ℕ) (shape : PageShape)
    → marked_from (cell_of page usable pages shape) shape.cells 0 (replicate usable false)
    ≡ verdicts page usable pages shape

-- marks of held ranges tell whether a range shares no byte with any of them, and with it they are those of one
-- range more; no marks are those of no ranges
pub record OffersTellRanges : Type 0 where
  pub free : (usable : ℕ) (marks : List Bool) (held : List CellView) (v : CellView) → Covers usable marks held
      → IsRange usable v → is_free marks v.start v.end ≡ list_all (are_apart v) held
  pub held : (usable : ℕ) (marks : List Bool) (held : List CellView) (v : CellView) → Covers usable marks held
      → IsRange usable v → Covers usable (with_range marks v.start v.end) (v ∷ held)
  pub none : (usable : ℕ) → Covers usable (replicate usable false) []
