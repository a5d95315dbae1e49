use Rattle.std.proofs.Common.{◌≡◌, drop}
use Rattle.page_walk.specs.Cells.{row_of}
use Rattle.table_shape.specs.Keys.{has_null}
use Rattle.table_fill.specs.Fates.{held}
use Rattle.table_fill.proofs.fits.has_null.Given as goal

abbrev pub invariant-loop-part : goal.invariant-loop-part
invariant-loop-part l = has_null (drop l.part-index l.parts) (held (row_of l.cell)) ≡ has_null l.parts (held (row_of l.cell))
