use Rattle.std.proofs.Common.{◌≡◌, ◌+◌, drop}
use Rattle.create_grammar.specs.Words.{number_len}
use Rattle.create_grammar.proofs.spans.number_len.Given as goal

abbrev pub invariant-loop-i : goal.invariant-loop-i
invariant-loop-i l = l.i + number_len l.before (drop l.i l.bytes) ≡ number_len l.fn.first l.bytes
