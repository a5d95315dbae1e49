use Rattle.std.proofs.Common.{◌≡◌, drop}
use Rattle.page_walk.specs.Cells.{row_of}
use Rattle.table_shape.specs.Keys.{has_parts}
use Rattle.table_fill.specs.Fates.{held}
use Rattle.table_fill.proofs.fits.has_parts.Given as goal

abbrev pub invariant-loop-part : goal.invariant-loop-part
invariant-loop-part l = has_parts (drop l.part-index l.parts) (held (row_of l.cell)) ≡ has_parts l.parts (held (row_of l.cell))
