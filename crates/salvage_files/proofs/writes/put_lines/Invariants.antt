use Rattle.std.proofs.Common.{drop}
use Rattle.std.specs.List.{flat_map}
use Rattle.page_access.specs.Outside.{KeepsSink}
use Rattle.page_access.proofs.Gains.{WroteFront}
use Rattle.report_text.specs.Lines.{line_text}
use Rattle.salvage_files.proofs.writes.put_lines.Given as goal

abbrev pub invariant-loop-line : goal.invariant-loop-line
invariant-loop-line g l =
    WroteFront (g.R.Sink.bytes l.fn.report) (g.R.Sink.bytes l.report) (g.R.Sink.faults l.fn.report) (g.R.Sink.faults l.report)
    (flat_map line_text (drop l.line-index l.report_lines)) (flat_map line_text l.report_lines)
    × KeepsSink g.R.Sink.created g.R.Sink.finished g.R.Sink.faults l.fn.report l.report
