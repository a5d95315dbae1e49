use Rattle.std.proofs.Common.{◌≡◌, ◌≤◌, ◌+◌, ◌-◌, ◌^◌, drop, min, sum_by}
use Rattle.db_builder.specs.Load.{key_load, table_load}
use Rattle.db_builder.specs.Trees.{keys_in}
use Rattle.db_builder.proofs.loads.table_load.Given as goal

abbrev pub invariant-loop-key : goal.invariant-loop-key
invariant-loop-key l =
    (min (l.total + sum_by (key_load l.table) (drop l.key-index (keys_in l.table).keys)) (2 ^ 128 - 1) ≡ min (table_load l.table) (2 ^ 128 - 1))
    × (l.total ≤ 2 ^ 128 - 1)
