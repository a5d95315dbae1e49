use Rattle.raw_schema.proofs.Sorting.{sorting_start, sorting_more}
use Rattle.raw_schema.proofs.entries.sort_out.Goals as goal

pub loop-cell-init : goal.loop-cell-init
loop-cell-init c = sorting_start _ _ _ _ c.into_iter-cell-iterator.ensures.into_iter_gives.0

pub loop-cell-preserved : goal.loop-cell-preserved
loop-cell-preserved c =
    sorting_more c.in-Some.cell _ _ _ c.loop-cell.invariant c.in-Some.ensures.steps.0 c.in_ok-sort_one.ensures.rows
    c.in_ok-sort_one.ensures.bad
