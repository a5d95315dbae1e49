use Rattle.std.proofs.Common.{◌≡◌, drop}
use Rattle.create_reader.specs.Numbers.{same_names}
use Rattle.create_reader.proofs.numbers.same_names.Given as goal

abbrev pub invariant-loop-i : goal.invariant-loop-i
invariant-loop-i l = same_names (drop l.i l.a) (drop l.i l.b) ≡ same_names l.a l.b
