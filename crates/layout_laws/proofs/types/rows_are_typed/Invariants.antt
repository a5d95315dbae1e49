use Rattle.std.proofs.Common.{take}
use Rattle.std.specs.List.{AllByRecursion}
use Rattle.table_shape.specs.declared.rows.OutRow.{OutRow}
use Rattle.table_shape.specs.Seen.{row_seen}
use Rattle.layout_laws.specs.Written.{IsTypedRow}
use Rattle.layout_laws.proofs.types.rows_are_typed.Given as goal

abbrev pub invariant-loop-row : goal.invariant-loop-row
invariant-loop-row l = AllByRecursion (λ (row : OutRow). IsTypedRow (row_seen row)) (take l.row-index l.rows)
