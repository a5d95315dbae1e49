use Rattle.std.proofs.Common.{◌-◌, length}
use Rattle.record_core.proofs.Tally.{Told}
use Rattle.record_core.proofs.spans.tally_types.Given as goal

abbrev pub invariant-types : goal.invariant-types
invariant-types l = Told l.room l.types l.at l.tally

abbrev pub decreases-types : goal.decreases-types
decreases-types l = length l.types - l.at
