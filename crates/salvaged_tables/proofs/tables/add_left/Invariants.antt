use Rattle.std.proofs.Common.{◌≡◌, ◌++◌, map}
use Rattle.std.specs.Vec.Iter.{into_iter_items}
use Rattle.page_walk.specs.Cells.{Row}
use Rattle.table_fill.specs.Chosen.{left_seen}
use Rattle.table_fill.specs.Fates.{Left}
use Rattle.salvaged_tables.specs.Salvaged.{lost_seen}
use Rattle.salvaged_tables.proofs.tables.add_left.Given as goal

abbrev pub invariant-loop-cell : goal.invariant-loop-cell
invariant-loop-cell l = map lost_seen l.to.items
    ++ map (λ (r : Row). (l.root, r)) (map (λ (l : Left). l.row) (map left_seen (into_iter_items l.cell-iterator)))
    ≡ map lost_seen l.fn.to.items ++ map (λ (r : Row). (l.root, r)) (map (λ (l : Left). l.row) (map left_seen l.fn.left.items))
