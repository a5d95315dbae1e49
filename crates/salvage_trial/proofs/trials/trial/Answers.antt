use Rattle.salvage_trial.specs.Numbers.{lines_of}
use Rattle.salvage_trial.proofs.Telling.{unfinished_of}
use Rattle.salvage_trial.proofs.trials.trial.Goals as goal

pub returns-in_default-finish-clause-ends : goal.returns-in_default-finish-clause-ends
returns-in_default-finish-clause-ends g c = (
  lines_of c.in_ok-numbers.numbers,
  c.in_ok-numbers.ensures,
  unfinished_of g.R.Sink.bytes g.R.Sink.created g.R.Sink.finished g.R.Sink.faults (lines_of c.in_ok-numbers.numbers) c.args.report.now
      c.put_lines.new.to c.finish.new.self c.in-Ok.ensures.writes c.in_default-finish.ensures.bytes c.in_default-finish.ensures.cause c.in_default-finish.ensures.err,
)
