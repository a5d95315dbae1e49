use Rattle.std.proofs.Common.{◌≡◌, ◌++◌, drop, map}
use Rattle.table_shape.specs.Keys.{part_of}
use Rattle.table_shape.specs.Seen.{shape_seen}
use Rattle.table_shape.proofs.keys.parts_of.Given as goal

abbrev pub invariant-loop-column : goal.invariant-loop-column
invariant-loop-column l = l.parts.items ++ map (part_of (shape_seen l.shape)) (drop l.column-index l.columns) ≡ map (part_of (shape_seen l.shape)) l.columns
