use Rattle.std.proofs.Common.{◌≡◌, ◌≤◌, ◌+◌, ◌-◌, ◌^◌, drop, map, min, sum_by}
use Rattle.table_shape.specs.Entries.{entry_parts}
use Rattle.table_shape.specs.Keys.{parts_of, values_of}
use Rattle.table_shape.specs.Seen.{row_seen, shape_seen}
use Rattle.table_shape.specs.Shape.{key_seen}
use Rattle.db_builder.specs.Load.{key_load, record_load}
use Rattle.db_builder.specs.Trees.{keys_in}
use Rattle.db_builder.proofs.loads.key_load.Given as goal

abbrev pub invariant-loop-row : goal.invariant-loop-row
invariant-loop-row l =
    let key = parts_of (shape_seen l.table.shape) (key_seen l.key) in
    (min (l.total + sum_by (λ row. record_load (values_of (entry_parts (keys_in l.table) key) row)) (drop l.row-index (map row_seen l.table.rows.items))) (2 ^ 128 - 1)
    ≡ min (key_load l.table key) (2 ^ 128 - 1))
    × (l.total ≤ 2 ^ 128 - 1)
