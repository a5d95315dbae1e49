use Rattle.std.proofs.Common.{◌≡◌, ◌+◌, drop}
use Rattle.create_grammar.specs.Words.{comment_from, comment_len}
use Rattle.create_grammar.proofs.spans.comment_len.Given as goal

abbrev pub invariant-loop-i : goal.invariant-loop-i
invariant-loop-i l = l.i + comment_from l.star (drop l.i l.bytes) ≡ comment_len l.bytes
