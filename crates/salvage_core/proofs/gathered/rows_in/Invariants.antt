use Rattle.std.proofs.Common.{◌≡◌, ◌≤◌, ℕ, ◌+◌, ◌-◌, ◌^◌, drop, length, min, sum_by}
use Rattle.table_shape.specs.declared.rows.OutTable.{OutTable}
use Rattle.salvage_core.proofs.gathered.rows_in.Given as goal

abbrev pub invariant-loop-table : goal.invariant-loop-table
invariant-loop-table l =
    (min (l.rows + sum_by (λ (t : OutTable). length t.rows.items) (drop l.table-index l.tables)) (2 ^ 64 - 1)
    ≡ min (sum_by (λ (t : OutTable). length t.rows.items) l.tables) (2 ^ 64 - 1))
    × (l.rows ≤ 2 ^ 64 - 1)
