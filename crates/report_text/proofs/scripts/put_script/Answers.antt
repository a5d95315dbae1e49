use Rattle.page_access.proofs.Gains.{front_last, front_out, front_start, front_step}
use Rattle.std.specs.Prelude.{codes}
use Rattle.report_text.specs.Lines.{script_text}
use Rattle.report_text.proofs.scripts.put_script.Goals as goal

pub returns-in_err-put-clause-writes : goal.returns-in_err-put-clause-writes
unfolding script_text
returns-in_err-put-clause-writes g c = front_out (codes "\n;\n") c.from_residual.ensures.0 (front_start _ _ _) c.in_err-put.ensures.writes

pub returns-clause-writes : goal.returns-clause-writes
unfolding script_text
returns-clause-writes g c = front_last (front_step (codes "\n;\n") (front_start _ _ _) c.in_ok-put.ensures.writes) c.put-2.ensures.writes
