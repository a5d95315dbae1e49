use Rattle.std.proofs.Common.{◌≡◌, drop, map, slice_get}
use Rattle.std.specs.List.{list_any}
use Rattle.create_reader.specs.Faults.{lacks_coll}
use Rattle.create_reader.proofs.causes.lists_lack_coll.Given as goal

abbrev pub invariant-loop-list : goal.invariant-loop-list
invariant-loop-list l = list_any (list_any (λ k. lacks_coll (slice_get l.columns k))) (map (λ v. v.items) (drop l.list-index l.lists))
    ≡ list_any (list_any (λ k. lacks_coll (slice_get l.columns k))) (map (λ v. v.items) l.lists)
