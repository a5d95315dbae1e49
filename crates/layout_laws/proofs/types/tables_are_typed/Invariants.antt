use Rattle.std.proofs.Common.{take}
use Rattle.std.specs.List.{AllByRecursion}
use Rattle.layout_laws.specs.Written.{HasTypedRows}
use Rattle.layout_laws.proofs.types.tables_are_typed.Given as goal

abbrev pub invariant-loop-table : goal.invariant-loop-table
invariant-loop-table l = AllByRecursion (HasTypedRows) (take l.table-index l.tables)
