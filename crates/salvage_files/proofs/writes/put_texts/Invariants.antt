use Rattle.std.proofs.Common.{drop}
use Rattle.std.specs.List.{flat_map}
use Rattle.page_access.specs.Outside.{KeepsSink}
use Rattle.page_access.proofs.Gains.{WroteFront}
use Rattle.salvage_files.specs.Files.{text_part}
use Rattle.salvage_files.proofs.writes.put_texts.Given as goal

abbrev pub invariant-loop-text : goal.invariant-loop-text
invariant-loop-text g l =
    WroteFront (g.T.Sink.bytes l.fn.script) (g.T.Sink.bytes l.script) (g.T.Sink.faults l.fn.script) (g.T.Sink.faults l.script)
    (flat_map text_part (drop l.text-index l.texts)) (flat_map text_part l.texts)
    × KeepsSink g.T.Sink.created g.T.Sink.finished g.T.Sink.faults l.fn.script l.script
