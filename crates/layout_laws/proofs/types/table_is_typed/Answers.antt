use Rattle.std.proofs.Common.{List, subst}
use Rattle.std.specs.List.{AllByRecursion}
use Rattle.table_shape.specs.declared.rows.OutRow.{OutRow}
use Rattle.table_shape.specs.Seen.{row_seen}
use Rattle.layout_laws.specs.Written.{IsTypedRow}
use Rattle.layout_laws.proofs.Typing.{all_seen}
use Rattle.layout_laws.proofs.types.table_is_typed.Goals as goal

pub returns : goal.returns
returns c = all_seen IsTypedRow row_seen c.args.table.now.rows.items
    (subst (λ (rows : List OutRow). AllByRecursion (λ (row : OutRow). IsTypedRow (row_seen row)) rows) c.as_slice.ensures.value c.rows_are_typed.ensures)
