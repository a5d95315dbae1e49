use Rattle.std.proofs.Common.{◌≡◌, ◌++◌, [], drop, map}
use Rattle.std.specs.List.{AllByRecursion}
use Rattle.table_shape.specs.Keys.{parts_seen}
use Rattle.table_fill.specs.Maps.{Holds}
use Rattle.table_fill.proofs.maps.new_maps.Given as goal

abbrev pub invariant-loop-plan : goal.invariant-loop-plan
invariant-loop-plan l = record {
  keys : map (λ m. parts_seen m.plan.now) l.maps.items ++ map parts_seen (drop l.plan-index l.keys) ≡ map parts_seen l.keys;
  empty : AllByRecursion (Holds []) l.maps.items;
}
