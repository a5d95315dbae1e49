use Rattle.std.specs.Prelude.{codes}
use Rattle.page_access.proofs.Gains.{front_last, front_out, front_start, front_step}
use Rattle.report_text.proofs.names.put_name.Goals as goal

pub returns-in_err-put_esc-clause-writes : goal.returns-in_err-put_esc-clause-writes
returns-in_err-put_esc-clause-writes g c = front_out (codes " ") c.from_residual.ensures.0 (front_start _ _ _) c.in_err-put_esc.ensures.writes

pub returns-clause-writes : goal.returns-clause-writes
returns-clause-writes g c = front_last (front_step (codes " ") (front_start _ _ _) c.in_ok-put_esc.ensures.writes) c.put.ensures.writes
