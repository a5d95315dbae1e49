use Rattle.hex.specs.Hex.{encode_lower}
use Rattle.page_access.proofs.Gains.{front_as, front_last, front_out, front_step}
use Rattle.page_access.proofs.Keeps.{KeepsSink-trans}
use Rattle.line_text.proofs.Joined.{hex-append, split_text}
use Rattle.line_text.proofs.pieces.put_hex.Goals as goal

pub returns-in_err-put_digits-clause-writes : goal.returns-in_err-put_digits-clause-writes
returns-in_err-put_digits-clause-writes g c =
    front_out (encode_lower c.split_at.result.1.now) c.from_residual.ensures.0 (front_as (split_text encode_lower (hex-append _) 64 c.loop-rest.rest.now _ _ c.split_at.ensures.front c.split_at.ensures.back) c.loop-rest.invariant.0) c.in_err-put_digits.ensures.writes

pub loop-rest-preserved : goal.loop-rest-preserved
loop-rest-preserved g c = (
  front_step (encode_lower c.split_at.result.1.now) (front_as (split_text encode_lower (hex-append _) 64 c.loop-rest.rest.now _ _ c.split_at.ensures.front c.split_at.ensures.back) c.loop-rest.invariant.0) c.in_ok-put_digits.ensures.writes,
  KeepsSink-trans c.loop-rest.invariant.1 c.in_ok-put_digits.ensures.kept,
)

pub returns-clause-writes : goal.returns-clause-writes
returns-clause-writes g c = front_last c.loop-rest.invariant.0 c.put_digits-2.ensures.writes
