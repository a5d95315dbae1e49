use Rattle.std.proofs.Common.{ap, map}
use Rattle.std.specs.List.{flat_map}
use Rattle.page_access.proofs.Gains.{front_last, front_out, front_start, front_step, writes_same}
use Rattle.page_walk.specs.Cells.{row_of}
use Rattle.salvage_cli.specs.Schema.{bad_line}
use Rattle.salvage_cli.proofs.schemas.put_schema.Goals as goal

pub returns-in_err-put_rows-clause-writes : goal.returns-in_err-put_rows-clause-writes
returns-in_err-put_rows-clause-writes g c =
    front_out (flat_map bad_line (map row_of c.args.schema.bad.items)) c.from_residual.ensures.0 (front_start _ _ _) c.in_err-put_rows.ensures.writes

pub returns-clause-writes : goal.returns-clause-writes
returns-clause-writes g c =
    front_last
    (front_step (flat_map bad_line (map row_of c.args.schema.bad.items)) (front_start _ _ _) c.in_ok-put_rows.ensures.writes)
    (writes_same (ap (λ cells. flat_map bad_line (map row_of cells)) c.deref.ensures.value) c.put_bad_rows.ensures.writes)
