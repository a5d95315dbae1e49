use Rattle.std.proofs.Common.{◌+◌, arith, drop}
use Rattle.std.specs.List.{flat_map}
use Rattle.page_access.proofs.Gains.{front_as, front_out, front_step}
use Rattle.page_access.proofs.Keeps.{KeepsSink-trans}
use Rattle.report_text.specs.Lines.{line_text}
use Rattle.salvage_files.proofs.Making.{flat_more}
use Rattle.salvage_files.proofs.writes.put_lines.Goals as goal

pub returns-in_err-put_line-clause-writes : goal.returns-in_err-put_line-clause-writes
returns-in_err-put_line-clause-writes g c =
    front_out (flat_map line_text (drop (c.loop-line.line-index + 1) c.args.report_lines.now)) c.from_residual.ensures.0
    (front_as (flat_more line_text c.loop-line.line-index c.args.report_lines.now c.line-item.result c.line-item.is (omega arith)) c.loop-line.invariant.0)
    c.in_err-put_line.ensures.writes

pub loop-line-preserved : goal.loop-line-preserved
loop-line-preserved g c = (
  front_step (flat_map line_text (drop (c.loop-line.line-index + 1) c.args.report_lines.now))
      (front_as (flat_more line_text c.loop-line.line-index c.args.report_lines.now c.line-item.result c.line-item.is (omega arith)) c.loop-line.invariant.0)
      c.in_ok-put_line.ensures.writes,
  KeepsSink-trans c.loop-line.invariant.1 c.in_ok-put_line.ensures.kept,
)
