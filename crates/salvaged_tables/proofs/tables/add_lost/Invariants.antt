use Rattle.std.proofs.Common.{◌≡◌, ◌++◌, map}
use Rattle.std.specs.Vec.Iter.{into_iter_items}
use Rattle.page_walk.specs.Cells.{Row, row_of}
use Rattle.salvaged_tables.specs.Salvaged.{lost_seen}
use Rattle.salvaged_tables.proofs.tables.add_lost.Given as goal

abbrev pub invariant-loop-cell : goal.invariant-loop-cell
invariant-loop-cell l = map lost_seen l.to.items ++ map (λ (r : Row). (l.root, r)) (map row_of (into_iter_items l.cell-iterator))
    ≡ map lost_seen l.fn.to.items ++ map (λ (r : Row). (l.root, r)) (map row_of l.fn.cells.items)
