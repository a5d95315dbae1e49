use Rattle.std.proofs.Common.{List, subst}
use Rattle.std.specs.List.{AllByRecursion}
use Rattle.table_shape.specs.declared.rows.OutTable.{OutTable}
use Rattle.layout_laws.specs.Written.{HasTypedRows}
use Rattle.layout_laws.proofs.types.numbers_are_typed.Goals as goal

pub returns : goal.returns
returns c = record {
  user_version = c.number_is_typed.ensures;
  application_id = c.number_is_typed-2.ensures;
  rows = subst (λ (ts : List OutTable). AllByRecursion HasTypedRows ts) c.as_slice.ensures.value c.tables_are_typed.ensures;
}
