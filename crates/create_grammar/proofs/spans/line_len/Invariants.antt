use Rattle.std.proofs.Common.{◌≡◌, ◌+◌, drop}
use Rattle.create_grammar.specs.Words.{line_len}
use Rattle.create_grammar.proofs.spans.line_len.Given as goal

abbrev pub invariant-loop-i : goal.invariant-loop-i
invariant-loop-i l = l.i + line_len (drop l.i l.bytes) ≡ line_len l.bytes
