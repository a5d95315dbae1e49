use Rattle.std.proofs.Common.{◌≡◌, drop}
use Rattle.create_reader.specs.Constraints.{table_name}
use Rattle.create_reader.proofs.constraints.table_name.Given as goal

abbrev pub invariant-loop-w : goal.invariant-loop-w
invariant-loop-w l = table_name l.sql (drop l.w-index l.said) ≡ table_name l.sql l.said
