use Rattle.std.proofs.Common.{◌++◌}
use Rattle.hex.specs.Hex.{encode_lower}
use Rattle.page_access.proofs.Gains.{front_as, front_last, front_out, front_start, front_step}
use Rattle.line_text.specs.Text.{newline}
use Rattle.dbdata_list.proofs.Pieces.{word_parts}
use Rattle.dbdata_list.proofs.lines.put_long.Goals as goal

pub returns-in_err-put_name-clause-writes : goal.returns-in_err-put_name-clause-writes
returns-in_err-put_name-clause-writes g c =
    front_out (encode_lower c.args.bytes.now ++ newline) c.from_residual.ensures.0
    (front_as (word_parts c.args.line.now.items c.args.name.now (encode_lower c.args.bytes.now)) (front_start _ _ _)) c.in_err-put_name.ensures.writes

pub returns-in_err-put_hex-clause-writes : goal.returns-in_err-put_hex-clause-writes
returns-in_err-put_hex-clause-writes g c =
    front_out newline c.from_residual-in_err-put_hex.ensures.0
    (front_step (encode_lower c.args.bytes.now ++ newline) (front_as (word_parts c.args.line.now.items c.args.name.now (encode_lower c.args.bytes.now)) (front_start _ _ _)) c.in_ok-put_name.ensures.writes)
    c.in_err-put_hex.ensures.writes

pub returns-clause-writes : goal.returns-clause-writes
returns-clause-writes g c =
    front_last
    (front_step newline
    (front_step (encode_lower c.args.bytes.now ++ newline) (front_as (word_parts c.args.line.now.items c.args.name.now (encode_lower c.args.bytes.now)) (front_start _ _ _)) c.in_ok-put_name.ensures.writes)
    c.in_ok-put_hex.ensures.writes)
    c.put.ensures.writes
