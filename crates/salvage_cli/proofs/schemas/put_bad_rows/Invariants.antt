use Rattle.std.proofs.Common.{drop, map}
use Rattle.std.specs.List.{flat_map}
use Rattle.page_access.specs.Outside.{KeepsSink}
use Rattle.page_access.proofs.Gains.{WroteFront}
use Rattle.page_walk.specs.Cells.{row_of}
use Rattle.salvage_cli.specs.Schema.{bad_line}
use Rattle.salvage_cli.proofs.schemas.put_bad_rows.Given as goal

-- the lines of the cells before this one are written
abbrev pub invariant-loop-cell : goal.invariant-loop-cell
invariant-loop-cell g l =
    let s = g.R.Sink in
    WroteFront (s.bytes l.initial.to) (s.bytes l.to) (s.faults l.initial.to) (s.faults l.to)
    (flat_map bad_line (map row_of (drop l.cell-index l.cells))) (flat_map bad_line (map row_of l.cells))
    × KeepsSink s.created s.finished s.faults l.initial.to l.to
