use Rattle.std.proofs.Common.{◌-◌}
use Rattle.create_grammar.specs.Grammar.{◌▷◌, a, comma}
use Rattle.create_grammar.specs.declared.classes.Class.TheVariants.{Name}
use Rattle.create_grammar.proofs.Many.{Rest}
use Rattle.create_grammar.proofs.pass.Pass.more_names.Given as goal

abbrev pub invariant-loop-turn : goal.invariant-loop-turn
invariant-loop-turn l = Rest (comma ▷ a Name) (l._turn-end - l._turn) l.fn.self l.self
