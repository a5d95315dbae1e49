use Rattle.create_grammar.proofs.Steps.{Kept}
use Rattle.create_grammar.proofs.pass.Pass.inside.Given as goal

abbrev pub invariant-loop-turn : goal.invariant-loop-turn
invariant-loop-turn l = Kept l.fn.self l.self l.depth l._turn l._turn-end
