use Rattle.std.specs.List.{flat_map}
use Rattle.std.proofs.lemmas.Grind.{flat_map-append}
use Rattle.page_access.proofs.Gains.{front_as, front_last, front_out, front_step}
use Rattle.page_access.proofs.Keeps.{KeepsSink-trans}
use Rattle.line_text.proofs.Joined.{split_text}
use Rattle.report_text.specs.Names.{esc_byte}
use Rattle.report_text.proofs.names.put_bytes.Goals as goal

pub returns-in_err-put_chunk-clause-writes : goal.returns-in_err-put_chunk-clause-writes
returns-in_err-put_chunk-clause-writes g c =
    front_out (flat_map esc_byte c.split_at.result.1.now) c.from_residual.ensures.0
    (front_as (split_text (flat_map esc_byte) (flat_map-append esc_byte) 32 c.loop-rest.rest.now _ _ c.split_at.ensures.front c.split_at.ensures.back) c.loop-rest.invariant.0)
    c.in_err-put_chunk.ensures.writes

pub loop-rest-preserved : goal.loop-rest-preserved
loop-rest-preserved g c = (
  front_step (flat_map esc_byte c.split_at.result.1.now)
      (front_as (split_text (flat_map esc_byte) (flat_map-append esc_byte) 32 c.loop-rest.rest.now _ _ c.split_at.ensures.front c.split_at.ensures.back) c.loop-rest.invariant.0)
      c.in_ok-put_chunk.ensures.writes,
  KeepsSink-trans c.loop-rest.invariant.1 c.in_ok-put_chunk.ensures.kept,
)

pub returns-clause-writes : goal.returns-clause-writes
returns-clause-writes g c = front_last c.loop-rest.invariant.0 c.put_chunk-2.ensures.writes
