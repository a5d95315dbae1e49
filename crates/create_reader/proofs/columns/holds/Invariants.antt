use Rattle.std.proofs.Common.{◌≡◌, drop}
use Rattle.create_reader.specs.Columns.{holds}
use Rattle.create_reader.proofs.columns.holds.Given as goal

abbrev pub invariant-loop-i : goal.invariant-loop-i
invariant-loop-i l = holds l.part (drop l.i l.bytes) ≡ holds l.part l.bytes
