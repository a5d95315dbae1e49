use Rattle.std.proofs.Common.{arith}
use Rattle.layout_laws.specs.Written.{HasTypedRows}
use Rattle.layout_laws.proofs.Typing.{all_end, all_more}
use Rattle.layout_laws.proofs.types.tables_are_typed.Goals as goal

pub loop-table-preserved : goal.loop-table-preserved
loop-table-preserved c = all_more (HasTypedRows) c.args.tables.now c.loop-table.table-index _ c.loop-table-test.true c.table-item.is c.table_is_typed.ensures c.loop-table.invariant

pub returns : goal.returns
returns c = all_end (HasTypedRows) c.args.tables.now c.loop-table.table-index (omega (arith, c.loop-table-test.false)) c.loop-table.invariant
