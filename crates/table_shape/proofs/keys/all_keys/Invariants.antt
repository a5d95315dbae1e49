use Rattle.std.proofs.Common.{◌≡◌, ◌++◌, drop, map}
use Rattle.table_shape.specs.Keys.{parts_of, parts_seen}
use Rattle.table_shape.specs.Seen.{shape_seen}
use Rattle.table_shape.specs.Shape.{key_seen}
use Rattle.table_shape.proofs.keys.all_keys.Given as goal

abbrev pub invariant-loop-key : goal.invariant-loop-key
invariant-loop-key l = map parts_seen l.plans.items ++ map (parts_of (shape_seen l.shape)) (map key_seen (drop l.key-index l.key-items)) ≡ map (parts_of (shape_seen l.shape)) (map key_seen l.key-items)
