use Rattle.std.proofs.Common.{◌+◌, arith, drop}
use Rattle.std.specs.List.{flat_map}
use Rattle.page_access.proofs.Gains.{front_as, front_out, front_step}
use Rattle.page_access.proofs.Keeps.{KeepsSink-trans}
use Rattle.salvage_files.specs.Files.{text_part}
use Rattle.salvage_files.proofs.Making.{flat_more}
use Rattle.salvage_files.proofs.writes.put_texts.Goals as goal

pub returns-in_err-put_text-clause-writes : goal.returns-in_err-put_text-clause-writes
returns-in_err-put_text-clause-writes g c =
    front_out (flat_map text_part (drop (c.loop-text.text-index + 1) c.args.texts.now)) c.from_residual.ensures.0
    (front_as (flat_more text_part c.loop-text.text-index c.args.texts.now c.text-item.result c.text-item.is (omega arith)) c.loop-text.invariant.0)
    c.in_err-put_text.ensures.writes

pub loop-text-preserved : goal.loop-text-preserved
loop-text-preserved g c = (
  front_step (flat_map text_part (drop (c.loop-text.text-index + 1) c.args.texts.now))
      (front_as (flat_more text_part c.loop-text.text-index c.args.texts.now c.text-item.result c.text-item.is (omega arith)) c.loop-text.invariant.0)
      c.in_ok-put_text.ensures.writes,
  KeepsSink-trans c.loop-text.invariant.1 c.in_ok-put_text.ensures.kept,
)
