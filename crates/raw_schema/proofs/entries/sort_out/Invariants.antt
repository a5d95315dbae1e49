use Rattle.std.specs.Vec.Iter.{into_iter_items}
use Rattle.raw_schema.proofs.Sorting.{Sorting}
use Rattle.raw_schema.proofs.entries.sort_out.Given as goal

abbrev pub invariant-loop-cell : goal.invariant-loop-cell
invariant-loop-cell l =
    Sorting l.fn.cells.items (into_iter_items l.cell-iterator) l.fn.rows.items l.rows.items l.fn.bad.items l.bad.items
