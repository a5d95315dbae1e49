use Rattle.std.proofs.Common.{◌≡◌, ◌++◌, map}
use Rattle.std.specs.Vec.Iter.{into_iter_items}
use Rattle.page_walk.specs.Cells.{row_of}
use Rattle.table_fill.specs.Chosen.{clash_seen, clashes_in, left_seen, misfits_in}
use Rattle.table_fill.proofs.fills.split.Given as goal

abbrev pub invariant-split : goal.invariant-split
invariant-split l = record {
  clashes : map clash_seen l.clashes.items ++ clashes_in (map left_seen (into_iter_items l.cell-iterator))
      ≡ clashes_in (map left_seen l.fn.left.items);
  misfits : map row_of l.misfits.items ++ misfits_in (map left_seen (into_iter_items l.cell-iterator))
      ≡ misfits_in (map left_seen l.fn.left.items);
}
