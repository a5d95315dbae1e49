use Rattle.std.proofs.Common.{◌≡◌, drop}
use Rattle.create_reader.specs.Columns.{is_real_word, type_has}
use Rattle.create_reader.proofs.columns.has_real_word.Given as goal

abbrev pub invariant-loop-w : goal.invariant-loop-w
invariant-loop-w l = type_has l.sql is_real_word (drop l.w-index l.own) ≡ type_has l.sql is_real_word l.own
