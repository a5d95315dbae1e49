use Rattle.std.proofs.Common.{◌≡◌, ◌≤◌, ◌+◌, ◌-◌, ◌^◌, drop, map, min, sum_by}
use Rattle.table_shape.specs.Keys.{StoredRow}
use Rattle.table_shape.specs.Seen.{row_seen}
use Rattle.db_builder.specs.Load.{record_load, rows_load}
use Rattle.db_builder.proofs.loads.rows_load.Given as goal

abbrev pub invariant-loop-row : goal.invariant-loop-row
invariant-loop-row l =
    (min (l.total + sum_by (λ (row : StoredRow). record_load row.fields) (drop l.row-index (map row_seen l.table.rows.items))) (2 ^ 128 - 1)
    ≡ min (rows_load l.table) (2 ^ 128 - 1))
    × (l.total ≤ 2 ^ 128 - 1)
