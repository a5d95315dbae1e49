use Rattle.std.proofs.Common.{◌≡◌, ◌++◌, drop}
use Rattle.page_walk.specs.Cells.{row_of}
use Rattle.table_fill.specs.Maps.{keys_in}
use Rattle.table_fill.proofs.maps.keys_in.Given as goal

abbrev pub invariant-loop-map : goal.invariant-loop-map
invariant-loop-map l = l.keys.items ++ keys_in (drop l.map-index l.maps) (row_of l.cell) ≡ keys_in l.maps (row_of l.cell)
