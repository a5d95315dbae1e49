use Rattle.std.proofs.Common.{◌≡◌, ◌++◌, drop}
use Rattle.create_reader.specs.Columns.{columns_of}
use Rattle.create_reader.proofs.columns.columns.Given as goal

abbrev pub invariant-loop-i : goal.invariant-loop-i
invariant-loop-i l = l.found.items ++ columns_of l.sql (drop l.i l.said) ≡ columns_of l.sql l.said
