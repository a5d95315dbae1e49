use Rattle.std.proofs.Common.{◌-◌, length}
use Rattle.record_core.proofs.Apart.{Searched}
use Rattle.record_core.proofs.long.long_value.Given as goal

abbrev pub invariant-types : goal.invariant-types
invariant-types l = Searched l.types l.bodies l.at l.from l.field

abbrev pub decreases-types : goal.decreases-types
decreases-types l = length l.types - l.at
