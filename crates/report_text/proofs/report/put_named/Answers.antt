use Rattle.std.proofs.Common.{◌++◌}
use Rattle.page_access.proofs.Gains.{front_last, front_out, front_start, front_step, writes_same}
use Rattle.report_text.specs.Names.{esc}
use Rattle.report_text.specs.Report.{named_text}
use Rattle.report_text.proofs.report.put_named.Goals as goal

pub returns-in_err-put_word-clause-writes : goal.returns-in_err-put_word-clause-writes
unfolding named_text
returns-in_err-put_word-clause-writes g c =
    front_out (esc c.args.name.now ++ c.args.rest.now.items) c.from_residual.ensures.0 (front_start _ _ _) c.in_err-put_word.ensures.writes

pub returns-in_err-put_esc-clause-writes : goal.returns-in_err-put_esc-clause-writes
unfolding named_text
returns-in_err-put_esc-clause-writes g c =
    front_out c.args.rest.now.items c.from_residual-in_err-put_esc.ensures.0
    (front_step (esc c.args.name.now ++ c.args.rest.now.items) (front_start _ _ _) c.in_ok-put_word.ensures.writes) c.in_err-put_esc.ensures.writes

pub returns-clause-writes : goal.returns-clause-writes
unfolding named_text
returns-clause-writes g c =
    front_last
    (front_step c.args.rest.now.items (front_step (esc c.args.name.now ++ c.args.rest.now.items) (front_start _ _ _) c.in_ok-put_word.ensures.writes) c.in_ok-put_esc.ensures.writes)
    (writes_same c.as_slice.ensures.value c.put.ensures.writes)
