use Rattle.std.proofs.Common.{◌≡◌, ◌++◌, drop}
use Rattle.create_reader.specs.Constraints.{key_names}
use Rattle.create_reader.proofs.constraints.key_names.Given as goal

abbrev pub invariant-loop-w : goal.invariant-loop-w
invariant-loop-w l = l.names.items ++ key_names l.sql (drop l.w-index l.own) ≡ key_names l.sql l.own
