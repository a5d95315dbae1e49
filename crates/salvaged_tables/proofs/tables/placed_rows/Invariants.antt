use Rattle.std.proofs.Common.{◌≡◌, ◌++◌, length, map}
use Rattle.std.specs.Vec.Iter.{into_iter_items}
use Rattle.page_walk.specs.Cells.{row_of}
use Rattle.salvaged_tables.specs.Fates.{stored_row}
use Rattle.salvaged_tables.specs.Salvaged.{rows_at}
use Rattle.salvaged_tables.proofs.tables.placed_rows.Given as goal

abbrev pub invariant-loop-cell : goal.invariant-loop-cell
invariant-loop-cell l = record {
  rows : rows_at l.rows.items l.places.items ++ map (stored_row l.without_rowid) (map row_of (into_iter_items l.cell-iterator))
      ≡ map (stored_row l.without_rowid) (map row_of l.fn.cells.items);
  places : length l.rows.items ≡ length l.places.items;
}
