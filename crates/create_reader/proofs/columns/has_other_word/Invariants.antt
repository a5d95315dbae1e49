use Rattle.std.proofs.Common.{◌≡◌, drop}
use Rattle.create_reader.specs.Columns.{is_other_word, type_has}
use Rattle.create_reader.proofs.columns.has_other_word.Given as goal

abbrev pub invariant-loop-w : goal.invariant-loop-w
invariant-loop-w l = type_has l.sql is_other_word (drop l.w-index l.own) ≡ type_has l.sql is_other_word l.own
