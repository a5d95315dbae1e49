use Rattle.std.proofs.Common.{◌++◌, append_assoc, sym}
use Rattle.std.specs.Prelude.{codes}
use Rattle.hex.specs.Hex.{encode_lower}
use Rattle.page_access.proofs.Gains.{front_as, front_last, front_out, front_start, front_step}
use Rattle.line_text.specs.Text.{newline}
use Rattle.report_text.proofs.lines.put_text.Goals as goal

pub returns-in_err-put_behind-clause-writes : goal.returns-in_err-put_behind-clause-writes
returns-in_err-put_behind-clause-writes g c =
    front_out (encode_lower c.args.text.now ++ newline) c.from_residual.ensures.0
    (front_as (sym (append_assoc c.args.line.items (codes " text:") (encode_lower c.args.text.now ++ newline))) (front_start _ _ _))
    c.in_err-put_behind.ensures.writes

pub returns-in_err-put_hex-clause-writes : goal.returns-in_err-put_hex-clause-writes
returns-in_err-put_hex-clause-writes g c =
    front_out newline c.from_residual-in_err-put_hex.ensures.0
    (front_step (encode_lower c.args.text.now ++ newline)
    (front_as (sym (append_assoc c.args.line.items (codes " text:") (encode_lower c.args.text.now ++ newline))) (front_start _ _ _))
    c.in_ok-put_behind.ensures.writes)
    c.in_err-put_hex.ensures.writes

pub returns-clause-writes : goal.returns-clause-writes
returns-clause-writes g c =
    front_last
    (front_step newline
    (front_step (encode_lower c.args.text.now ++ newline)
    (front_as (sym (append_assoc c.args.line.items (codes " text:") (encode_lower c.args.text.now ++ newline))) (front_start _ _ _))
    c.in_ok-put_behind.ensures.writes)
    c.in_ok-put_hex.ensures.writes)
    c.put.ensures.writes
