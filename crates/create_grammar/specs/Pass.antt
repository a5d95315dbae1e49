-- A pass over the words of a text: what a step of it does (docs/CREATE_TABLE.md, "One word of sight").
use Rattle.std.specs.Prelude.{◌≡◌, ℕ, ◌+◌, Result, Ok, Err, List, ◌++◌, drop, length, map}
use Rattle.create_grammar.specs.declared.pass.Pass.{Pass}
use Rattle.create_grammar.specs.declared.pass.Stop.{Stop}
use Rattle.create_grammar.specs.declared.pass.Stop.TheVariants.{Form, Memory}
use Rattle.create_grammar.specs.Roles.{role_code}
use Rattle.create_grammar.specs.Sorts.{code}
use Rattle.word_grammar.specs.Form as grammar
use Rattle.word_grammar.specs.Form.{Labelled, roles, depth_behind}
use Rattle.word_grammar.specs.Reading.{Reading, took, fails, reads, reads_inside}

-- the words that are left, and the roles of those that were read
abbrev pub rest_of : Pass → List ℕ
rest_of p = map code (drop p.at p.sorts.now)

abbrev pub labels_of : Pass → List ℕ
labels_of p = map role_code p.roles.items

-- words were read, with their roles
pub record Went (old new : Pass) (ls : Labelled) (rest : List ℕ) : Type 0 where
  pub at : new.at ≡ old.at + length ls
  pub left : rest_of new ≡ rest
  pub labelled : labels_of new ≡ labels_of old ++ roles ls

-- memory ran out
abbrev pub StopsOut : Stop → Type 0
StopsOut (Form at) = ⊥
StopsOut Memory = Unit {0}

-- it did, or the pass stopped n words further on
abbrev pub StopsAt : Pass → ℕ → Stop → Type 0
StopsAt old n (Form at) = at ≡ old.at + n
StopsAt old n Memory = Unit {0}

-- the pass did what a reading of the words says
abbrev pub Did : Reading → Pass → Pass → Result (Unit {0}) Stop → Type 0
Did (took ls rest) old new (Ok x) = Went old new ls rest
Did (took ls rest) old new (Err e) = StopsOut e
Did (fails n) old new (Ok x) = ⊥
Did (fails n) old new (Err e) = StopsAt old n e

abbrev pub Reads : grammar.Form → Pass → Pass → Result (Unit {0}) Stop → Type 0
Reads f old new result = Did (reads f (rest_of old)) old new result

-- one word of the rest of a group was read, from one depth to another
abbrev pub Goes : ℕ → Pass → Pass → Result ℕ Stop → Type 0
Goes depth old mid (Ok deeper) = (new : Pass) (result : Result (Unit {0}) Stop)
    → Did (reads_inside deeper (rest_of mid)) mid new result
    → Did (reads_inside depth (rest_of old)) old new result
Goes depth old new (Err e) = Did (reads_inside depth (rest_of old)) old new (Err e)
