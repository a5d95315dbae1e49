use Rattle.std.proofs.Common.{◌≡◌, ◌++◌, drop, map}
use Rattle.page_walk.specs.Cells.{row_of}
use Rattle.salvage_core.specs.Plan.{bad_line}
use Rattle.salvage_core.proofs.fronts.add_bad.Given as goal

abbrev pub invariant-loop-cell : goal.invariant-loop-cell
invariant-loop-cell l =
    l.to.items ++ map bad_line (map row_of (drop l.cell-index l.bad)) ≡ l.fn.to.items ++ map bad_line (map row_of l.bad)
