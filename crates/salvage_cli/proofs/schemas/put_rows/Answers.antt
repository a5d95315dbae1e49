use Rattle.std.proofs.Common.{ap}
use Rattle.std.specs.List.{flat_map}
use Rattle.std.specs.Vec.Iter.{into_iter_items}
use Rattle.page_access.proofs.Gains.{front_as, front_out, front_step}
use Rattle.page_access.proofs.Keeps.{KeepsSink-trans}
use Rattle.salvage_cli.specs.Schema.{row_line}
use Rattle.salvage_cli.proofs.schemas.put_rows.Goals as goal

pub returns-in_err-put_row-clause-writes : goal.returns-in_err-put_row-clause-writes
returns-in_err-put_row-clause-writes g c =
    front_out (flat_map row_line (into_iter_items c.next.new.self)) c.from_residual.ensures.0
    (front_as (ap (flat_map row_line) c.in-Some.ensures.steps.0) c.loop-row.invariant.0)
    c.in_err-put_row.ensures.writes

pub loop-row-preserved : goal.loop-row-preserved
loop-row-preserved g c = (
  front_step (flat_map row_line (into_iter_items c.next.new.self))
      (front_as (ap (flat_map row_line) c.in-Some.ensures.steps.0) c.loop-row.invariant.0)
      c.in_ok-put_row.ensures.writes,
  KeepsSink-trans c.loop-row.invariant.1 c.in_ok-put_row.ensures.kept,
)
