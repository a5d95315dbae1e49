use Rattle.std.proofs.Common.{◌≡◌, ◌≤◌, ◌+◌, ◌-◌, ◌^◌, drop, min, sum_by}
use Rattle.db_builder.specs.Load.{load, table_load}
use Rattle.db_builder.proofs.loads.load_of.Given as goal

abbrev pub invariant-loop-table : goal.invariant-loop-table
invariant-loop-table l = (min (l.total + sum_by table_load (drop l.table-index l.db.tables.items)) (2 ^ 128 - 1) ≡ load l.db)
    × (l.total ≤ 2 ^ 128 - 1)
