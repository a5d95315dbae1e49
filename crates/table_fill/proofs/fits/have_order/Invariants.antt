use Rattle.std.proofs.Common.{◌≡◌, drop, map}
use Rattle.std.specs.List.{list_all}
use Rattle.page_walk.specs.Cells.{row_of}
use Rattle.table_shape.specs.Keys.{has_order, parts_seen}
use Rattle.table_fill.specs.Fates.{held}
use Rattle.table_fill.proofs.fits.have_order.Given as goal

abbrev pub invariant-loop-key : goal.invariant-loop-key
invariant-loop-key l =
    list_all (λ k. has_order k.parts (held (row_of l.cell))) (map parts_seen (drop l.key-index l.keys))
    ≡ list_all (λ k. has_order k.parts (held (row_of l.cell))) (map parts_seen l.keys)
