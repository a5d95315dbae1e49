use Rattle.std.proofs.Common.{◌≡◌, ◌++◌, drop}
use Rattle.page_walk.specs.Cells.{row_of}
use Rattle.table_shape.specs.Keys.{key_of}
use Rattle.table_fill.specs.Fates.{held}
use Rattle.table_fill.proofs.fits.key_of.Given as goal

abbrev pub invariant-loop-part : goal.invariant-loop-part
invariant-loop-part l =
    l.key ++ key_of (drop l.part-index l.parts) (held (row_of l.cell)) ≡ key_of l.parts (held (row_of l.cell))
