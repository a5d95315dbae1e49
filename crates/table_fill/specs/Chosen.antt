-- The rows of a table and the cells that are none, as the calls answer them (docs/FORMAT.md, "Keys and
-- clashes").
use Rattle.std.specs.Prelude.{◌≡◌, ℕ, Some, None, List, [], ◌∷◌, map}
use Rattle.table_shape.specs.Keys.{Keys}
use Rattle.page_walk.specs.declared.outcomes.Place.{Place}
use Rattle.page_walk.specs.Cells.{Row, row_of}
use Rattle.table_fill.specs.declared.fates.Chosen.{Chosen}
use Rattle.table_fill.specs.declared.fates.Chosen.TheVariants as chosen
use Rattle.table_fill.specs.declared.fates.Fate.{Fate}
use Rattle.table_fill.specs.declared.fates.Fate.TheVariants.{Clash, Misfit}
use Rattle.table_fill.specs.declared.fates.LeftCell.{LeftCell}
use Rattle.table_fill.specs.declared.fills.Clash.{Clash as ClashCell}
use Rattle.table_fill.specs.declared.fills.Filled.{Filled}
use Rattle.table_fill.specs.declared.fills.Filled.TheVariants as filled
use Rattle.table_fill.specs.Fates.{Left, first_unordered, left_row, rows_of, sorted_of}

-- a cell that is no row, as definitions see it
abbrev pub left_seen : LeftCell → Left
left_seen l = left_row (row_of l.cell) l.fate

-- the rows and the others are those of the cells
pub record AreSorted (t : Keys) (cells rows : List Row) (left : List Left) : Type 0 where
  pub ordered : first_unordered t cells ≡ None
  pub rows_are : rows ≡ rows_of t (sorted_of t cells)
  pub left_are : left ≡ (sorted_of t cells).left

-- the cells are sorted out, or all of them are given back since one cannot be ordered
abbrev pub IsChosen : Keys → List Row → Chosen → Type 0
IsChosen t cells (chosen.Rows rows left) =
    AreSorted t cells (map row_of rows.items) (map left_seen left.items)
IsChosen t cells (chosen.Unordered given place) =
    (map row_of given.items ≡ cells) × (first_unordered t cells ≡ Some place)

-- a clash: the cell, the row before it, and the key
pub record Clashed : Type 0 where
  pub row : Row
  pub earlier : Place
  pub key : ℕ

abbrev pub clash_seen : ClashCell → Clashed
clash_seen c = record { row = row_of c.cell; earlier = c.earlier; key = c.key }

-- the clashes among cells that are no rows, in order, and the misfits
abbrev pub clash_first : Row → Fate → List Clashed → List Clashed
clash_first r (Clash earlier key) rest = record { row = r; earlier = earlier; key = key } ∷ rest
clash_first r Misfit rest = rest

abbrev pub clashes_in : List Left → List Clashed
clashes_in [] = []
clashes_in (l ∷ left) = clash_first l.row l.fate (clashes_in left)

abbrev pub misfit_first : Row → Fate → List Row → List Row
misfit_first r (Clash earlier key) rest = rest
misfit_first r Misfit rest = r ∷ rest

abbrev pub misfits_in : List Left → List Row
misfits_in [] = []
misfits_in (l ∷ left) = misfit_first l.row l.fate (misfits_in left)

-- the same in three lists
pub record AreFilled (t : Keys) (cells rows : List Row) (clashes : List Clashed) (misfits : List Row) : Type 0 where
  pub ordered : first_unordered t cells ≡ None
  pub rows_are : rows ≡ rows_of t (sorted_of t cells)
  pub clashes_are : clashes ≡ clashes_in (sorted_of t cells).left
  pub misfits_are : misfits ≡ misfits_in (sorted_of t cells).left

abbrev pub IsFilled : Keys → List Row → Filled → Type 0
IsFilled t cells (filled.Built rows clashes misfits) =
    AreFilled t cells (map row_of rows.items) (map clash_seen clashes.items) (map row_of misfits.items)
IsFilled t cells (filled.Unordered given place) =
    (map row_of given.items ≡ cells) × (first_unordered t cells ≡ Some place)
