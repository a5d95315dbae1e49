use Rattle.std.proofs.Common.{◌≡◌, ◌+◌, ◌++◌, length, map}
use Rattle.std.specs.List.{AllByRecursion}
use Rattle.std.specs.Vec.Iter.{into_iter_items}
use Rattle.salvaged_tables.specs.Salvaged.{lost_seen, rows_at}
use Rattle.lost_found.specs.Few.{HasFewFields}
use Rattle.lost_found.specs.Rows.{lost_rows}
use Rattle.lost_found.proofs.rows.lost_rows.Given as goal

abbrev pub invariant-loop-cell : goal.invariant-loop-cell
invariant-loop-cell l = record {
  rows : rows_at l.rows.items l.places.items ++ lost_rows (length l.rows.items + 1) (map lost_seen (into_iter_items l.cell-iterator))
      ≡ lost_rows 1 (map lost_seen l.fn.cells.items);
  places : length l.rows.items ≡ length l.places.items;
  few : AllByRecursion HasFewFields (into_iter_items l.cell-iterator);
  count : length l.rows.items + length (into_iter_items l.cell-iterator) ≡ length l.fn.cells.items;
}
