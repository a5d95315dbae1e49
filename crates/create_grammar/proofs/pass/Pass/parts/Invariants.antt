use Rattle.std.proofs.Common.{◌-◌}
use Rattle.create_grammar.specs.Grammar.{column, table_constraint}
use Rattle.create_grammar.specs.Classes.{class_of}
use Rattle.create_grammar.specs.declared.classes.Class.TheVariants.{One}
use Rattle.create_grammar.specs.declared.sorts.Sort.TheVariants.{Comma}
use Rattle.create_grammar.proofs.Many.{RunsRest}
use Rattle.create_grammar.proofs.pass.Pass.parts.Given as goal

abbrev pub invariant-loop-turn : goal.invariant-loop-turn
invariant-loop-turn l = RunsRest 0 (class_of (One Comma)) column table_constraint (l._turn-end - l._turn) l.fn.self l.self
