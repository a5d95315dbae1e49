use Rattle.std.proofs.Common.{length}
use Rattle.hex.specs.Hex.{encode_lower}
use Rattle.page_access.specs.Outside.{KeepsSink}
use Rattle.page_access.proofs.Gains.{WroteFront}
use Rattle.line_text.proofs.pieces.put_hex.Given as goal

-- the digits of the bytes before the rest are written
abbrev pub invariant-loop-rest : goal.invariant-loop-rest
invariant-loop-rest g l =
    let s = g.R.Sink in
    WroteFront (s.bytes l.initial.to) (s.bytes l.to) (s.faults l.initial.to) (s.faults l.to) (encode_lower l.rest) (encode_lower l.bytes)
    × KeepsSink s.created s.finished s.faults l.initial.to l.to

abbrev pub decreases-loop-rest : goal.decreases-loop-rest
decreases-loop-rest g l = length l.rest
