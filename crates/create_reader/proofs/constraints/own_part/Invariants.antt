use Rattle.std.proofs.Common.{◌≡◌, ◌++◌, drop, take}
use Rattle.create_reader.specs.Constraints.{own_part}
use Rattle.create_reader.proofs.constraints.own_part.Given as goal

abbrev pub invariant-loop-i : goal.invariant-loop-i
invariant-loop-i l = take l.i l.said ++ own_part (drop l.i l.said) ≡ own_part l.said
