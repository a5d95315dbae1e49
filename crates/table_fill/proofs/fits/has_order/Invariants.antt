use Rattle.std.proofs.Common.{◌≡◌, drop}
use Rattle.page_walk.specs.Cells.{row_of}
use Rattle.table_shape.specs.Keys.{has_order}
use Rattle.table_fill.specs.Fates.{held}
use Rattle.table_fill.proofs.fits.has_order.Given as goal

abbrev pub invariant-loop-part : goal.invariant-loop-part
invariant-loop-part l = has_order (drop l.part-index l.parts) (held (row_of l.cell)) ≡ has_order l.parts (held (row_of l.cell))
