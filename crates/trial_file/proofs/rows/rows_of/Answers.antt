use Rattle.trial_file.proofs.Steps.{rows_end, rows_next}
use Rattle.trial_file.proofs.rows.rows_of.Goals as goal

pub loop-number-preserved : goal.loop-number-preserved
loop-number-preserved c =
    rows_next c.loop-number.rows.items c.push.new.self.items c.in_ok-row_of.field-0 c.loop-number.number c.args.count _
    c.loop-number-test.true c.in_ok-push.ensures.items c.in_ok-row_of.ensures c.loop-number.invariant

pub returns : goal.returns
returns c = rows_end c.loop-number.rows.items c.loop-number.number c.args.count _ c.loop-number-test.false c.loop-number.invariant
