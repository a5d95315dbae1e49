use Rattle.std.proofs.Common.{◌≡◌, drop}
use Rattle.create_grammar.specs.Words.{more, quoted_from, quoted_len}
use Rattle.create_grammar.proofs.spans.quoted_len.Given as goal

abbrev pub invariant-loop-i : goal.invariant-loop-i
invariant-loop-i l = more l.i (quoted_from l.quote l.second (drop l.i l.bytes)) ≡ quoted_len l.quote l.bytes
