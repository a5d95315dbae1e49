use Rattle.std.proofs.Common.{◌-◌, length}
use Rattle.record_core.proofs.Apart.{LeftBut}
use Rattle.record_core.proofs.reading.values_but.Given as goal

abbrev pub invariant-types : goal.invariant-types
invariant-types l = LeftBut l.types l.bodies l.at l.from l.long l.values.items

abbrev pub decreases-types : goal.decreases-types
decreases-types l = length l.types - l.at
