use Rattle.std.proofs.Common.{◌-◌}
use Rattle.create_grammar.specs.Grammar.{◌▷◌, comma, option}
use Rattle.create_grammar.proofs.Many.{Rest}
use Rattle.create_grammar.proofs.pass.Pass.more_options.Given as goal

abbrev pub invariant-loop-turn : goal.invariant-loop-turn
invariant-loop-turn l = Rest (comma ▷ option) (l._turn-end - l._turn) l.fn.self l.self
