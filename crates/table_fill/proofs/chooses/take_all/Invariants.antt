use Rattle.std.proofs.Common.{map}
use Rattle.std.specs.Vec.Iter.{into_iter_items}
use Rattle.page_walk.specs.Cells.{row_of}
use Rattle.table_shape.specs.Keys.{keys_seen}
use Rattle.table_fill.proofs.Taking.{Taking}
use Rattle.table_fill.proofs.chooses.take_all.Given as goal

abbrev pub invariant-loop-cell : goal.invariant-loop-cell
invariant-loop-cell l =
    Taking (keys_seen l.plan) (map row_of l.fn.cells.items) l.fn.now l.now (map row_of (into_iter_items l.cell-iterator))
