use Rattle.std.proofs.Common.{◌+◌, arith, drop, map}
use Rattle.std.specs.List.{flat_map}
use Rattle.page_access.proofs.Gains.{front_as, front_out, front_step}
use Rattle.page_access.proofs.Keeps.{KeepsSink-trans}
use Rattle.page_walk.specs.Cells.{row_of}
use Rattle.salvage_cli.specs.Schema.{bad_line}
use Rattle.salvage_cli.proofs.SchemaLines.{bad_more}
use Rattle.salvage_cli.proofs.schemas.put_bad_rows.Goals as goal

pub returns-in_err-put_bad_row-clause-writes : goal.returns-in_err-put_bad_row-clause-writes
returns-in_err-put_bad_row-clause-writes g c =
    front_out (flat_map bad_line (map row_of (drop (c.loop-cell.cell-index + 1) c.args.cells.now))) c.from_residual.ensures.0
    (front_as (bad_more c.loop-cell.cell-index c.args.cells.now c.cell-item.result c.cell-item.is (omega arith)) c.loop-cell.invariant.0)
    c.in_err-put_bad_row.ensures.writes

pub loop-cell-preserved : goal.loop-cell-preserved
loop-cell-preserved g c = (
  front_step (flat_map bad_line (map row_of (drop (c.loop-cell.cell-index + 1) c.args.cells.now)))
      (front_as (bad_more c.loop-cell.cell-index c.args.cells.now c.cell-item.result c.cell-item.is (omega arith)) c.loop-cell.invariant.0)
      c.in_ok-put_bad_row.ensures.writes,
  KeepsSink-trans c.loop-cell.invariant.1 c.in_ok-put_bad_row.ensures.kept,
)
