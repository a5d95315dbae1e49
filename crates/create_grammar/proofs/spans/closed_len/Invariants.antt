use Rattle.std.proofs.Common.{◌≡◌, drop}
use Rattle.create_grammar.specs.Words.{closed_len, more}
use Rattle.create_grammar.proofs.spans.closed_len.Given as goal

abbrev pub invariant-loop-i : goal.invariant-loop-i
invariant-loop-i l = more l.i (closed_len l.close (drop l.i l.bytes)) ≡ closed_len l.close l.bytes
