use Rattle.std.proofs.Common.{◌≡◌, drop, map}
use Rattle.page_walk.specs.Cells.{row_of}
use Rattle.table_shape.specs.Keys.{keys_seen}
use Rattle.table_fill.specs.Fates.{first_unordered}
use Rattle.table_fill.proofs.fits.first_unordered.Given as goal

abbrev pub invariant-loop-cell : goal.invariant-loop-cell
invariant-loop-cell l =
    first_unordered (keys_seen l.plan) (map row_of (drop l.cell-index l.cells))
    ≡ first_unordered (keys_seen l.plan) (map row_of l.cells)
