use Rattle.std.proofs.Common.{◌≡◌, drop}
use Rattle.create_grammar.specs.Classes.{codes_of}
use Rattle.create_grammar.specs.Sorts.{code}
use Rattle.word_grammar.specs.Form.{has}
use Rattle.create_grammar.proofs.classes.is_among.Given as goal

abbrev pub invariant-loop-other : goal.invariant-loop-other
invariant-loop-other l = has (codes_of (drop l.other-index l.sorts)) (code l.sort) ≡ has (codes_of l.sorts) (code l.sort)
