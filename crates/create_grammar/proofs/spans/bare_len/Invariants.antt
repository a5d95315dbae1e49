use Rattle.std.proofs.Common.{◌≡◌, ◌+◌, drop}
use Rattle.create_grammar.specs.Words.{bare_len}
use Rattle.create_grammar.proofs.spans.bare_len.Given as goal

abbrev pub invariant-loop-i : goal.invariant-loop-i
invariant-loop-i l = l.i + bare_len (drop l.i l.bytes) ≡ bare_len l.bytes
