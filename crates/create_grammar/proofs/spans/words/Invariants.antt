use Rattle.std.proofs.Common.{◌≡◌, ◌-◌, ◌++◌, drop}
use Rattle.create_grammar.specs.Words.{words_from, words_of}
use Rattle.create_grammar.proofs.spans.words.Given as goal

abbrev pub invariant-loop-turn : goal.invariant-loop-turn
invariant-loop-turn l = l.found.items ++ words_from (l._turn-end - l._turn) l.at (drop l.at l.sql) ≡ words_of l.sql
