use Rattle.std.proofs.Common.{◌≡◌, ◌++◌, drop}
use Rattle.lost_found.specs.Texts.{doubled}
use Rattle.lost_found.proofs.texts.add_doubled.Given as goal

abbrev pub invariant-loop-byte : goal.invariant-loop-byte
invariant-loop-byte l = l.to.items ++ doubled (drop l.byte-index l.name) ≡ l.fn.to.items ++ doubled l.name
