use Rattle.std.proofs.Common.{◌≡◌, drop, slice_get}
use Rattle.std.specs.List.{list_any}
use Rattle.create_reader.specs.Faults.{lacks_coll}
use Rattle.create_reader.proofs.causes.list_lacks_coll.Given as goal

abbrev pub invariant-loop-number : goal.invariant-loop-number
invariant-loop-number l = list_any (λ k. lacks_coll (slice_get l.columns k)) (drop l.number-index l.list)
    ≡ list_any (λ k. lacks_coll (slice_get l.columns k)) l.list
