use Rattle.std.proofs.Common.{◌-◌}
use Rattle.create_grammar.specs.Grammar.{type_word}
use Rattle.create_grammar.proofs.Many.{Rest}
use Rattle.create_grammar.proofs.pass.Pass.more_type_words.Given as goal

abbrev pub invariant-loop-turn : goal.invariant-loop-turn
invariant-loop-turn l = Rest type_word (l._turn-end - l._turn) l.fn.self l.self
