use Rattle.std.proofs.Common.{◌≡◌, ◌++◌, drop, map}
use Rattle.std.proofs.Common.{ℕ, List}
use Rattle.create_grammar.specs.declared.reading.Said.{Said}
use Rattle.create_grammar.specs.declared.roles.Role.{Role}
use Rattle.create_grammar.specs.declared.spans.Word.{Word}
use Rattle.create_grammar.proofs.reading.side_by_side.Given as goal

pub record Both (found : List Said) (words : List Word) (roles : List Role) (i : ℕ) : Type 0 where
  pub words_are : map (λ s. s.word) found ++ drop i words ≡ words
  pub roles_are : map (λ s. s.role) found ++ drop i roles ≡ roles

abbrev pub invariant-loop-i : goal.invariant-loop-i
invariant-loop-i l = Both l.found.items l.words l.roles l.i
