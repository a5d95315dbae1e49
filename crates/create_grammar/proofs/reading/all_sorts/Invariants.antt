use Rattle.std.proofs.Common.{◌≡◌, ◌++◌, drop, map}
use Rattle.create_grammar.specs.Sorts.{code, sort_of}
use Rattle.create_grammar.proofs.reading.all_sorts.Given as goal

abbrev pub invariant-loop-word : goal.invariant-loop-word
invariant-loop-word l = map code l.found.items ++ map (λ w. code (sort_of l.sql w)) (drop l.word-index l.words)
    ≡ map (λ w. code (sort_of l.sql w)) l.words
