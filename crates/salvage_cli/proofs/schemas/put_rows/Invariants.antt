use Rattle.std.specs.List.{flat_map}
use Rattle.std.specs.Vec.Iter.{into_iter_items}
use Rattle.page_access.specs.Outside.{KeepsSink}
use Rattle.page_access.proofs.Gains.{WroteFront}
use Rattle.salvage_cli.specs.Schema.{row_line}
use Rattle.salvage_cli.proofs.schemas.put_rows.Given as goal

-- the lines of the rows before this one are written
abbrev pub invariant-loop-row : goal.invariant-loop-row
invariant-loop-row g l =
    let s = g.R.Sink in
    WroteFront (s.bytes l.initial.to) (s.bytes l.to) (s.faults l.initial.to) (s.faults l.to)
    (flat_map row_line (into_iter_items l.row-iterator)) (flat_map row_line l.fn.rows.items)
    × KeepsSink s.created s.finished s.faults l.initial.to l.to
