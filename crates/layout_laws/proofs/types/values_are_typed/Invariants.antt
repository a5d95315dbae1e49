use Rattle.std.proofs.Common.{◌<◌, ℕ, get_or}
use Rattle.record_core.specs.declared.values.Value.TheVariants.{Null}
use Rattle.record_core.specs.Shortest.{IsStored}
use Rattle.layout_laws.proofs.types.values_are_typed.Given as goal

abbrev pub invariant-loop-value : goal.invariant-loop-value
invariant-loop-value l = (k : ℕ) → k < l.value-index → IsStored (get_or l.values k Null)
