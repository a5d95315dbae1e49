use Rattle.std.proofs.Common.{◌<◌, ℕ, get_or}
use Rattle.record_core.specs.declared.values.Value.TheVariants.{Null}
use Rattle.record_core.specs.Shortest.{IsStored, body_of}
use Rattle.record_core.proofs.Rows.{Wrote}
use Rattle.record_core.proofs.writing.put_bodies.Given as goal

abbrev pub invariant-loop-i : goal.invariant-loop-i
invariant-loop-i g l =
    Wrote body_of (g.F.Fields.values l.values) l.initial.to l.at l.i l.to l.end
    × ((k : ℕ) → k < l.i → IsStored (get_or (g.F.Fields.values l.values) k Null))
