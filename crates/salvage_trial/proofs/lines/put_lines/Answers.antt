use Rattle.std.proofs.Common.{◌∙◌}
use Rattle.page_access.proofs.Gains.{front_last, front_out, front_start, front_step, writes_same}
use Rattle.salvage_trial.specs.Lines.{hole_line}
use Rattle.salvage_trial.proofs.lines.put_lines.Goals as goal

pub returns-in_err-put-clause-writes : goal.returns-in_err-put-clause-writes
returns-in_err-put-clause-writes g c =
    let x = c.args.numbers.now in
    front_out (hole_line x.hole x.holed.rows x.holed.lost) c.from_residual.ensures.0 (front_start _ _ _)
    (writes_same (c.as_slice.ensures.value ∙ c.whole_line.ensures) c.in_err-put.ensures.writes)

pub returns-clause-writes : goal.returns-clause-writes
returns-clause-writes g c =
    let x = c.args.numbers.now in
    front_last
    (front_step (hole_line x.hole x.holed.rows x.holed.lost) (front_start _ _ _)
    (writes_same (c.as_slice.ensures.value ∙ c.whole_line.ensures) c.in_ok-put.ensures.writes))
    (writes_same (c.as_slice-2.ensures.value ∙ c.hole_line.ensures) c.put-2.ensures.writes)
