use Rattle.std.proofs.Common.{◌≡◌, ◌++◌, drop, take}
use Rattle.create_reader.specs.Columns.{own_words}
use Rattle.create_reader.proofs.columns.own_words.Given as goal

abbrev pub invariant-loop-i : goal.invariant-loop-i
invariant-loop-i l = take l.i l.said ++ own_words (drop l.i l.said) ≡ own_words l.said
