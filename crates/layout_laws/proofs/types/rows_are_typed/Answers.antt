use Rattle.std.proofs.Common.{arith}
use Rattle.table_shape.specs.declared.rows.OutRow.{OutRow}
use Rattle.table_shape.specs.Seen.{row_seen}
use Rattle.layout_laws.specs.Written.{IsTypedRow}
use Rattle.layout_laws.proofs.Typing.{all_end, all_more}
use Rattle.layout_laws.proofs.types.rows_are_typed.Goals as goal

pub loop-row-preserved : goal.loop-row-preserved
loop-row-preserved c = all_more (λ (row : OutRow). IsTypedRow (row_seen row)) c.args.rows.now c.loop-row.row-index _ c.loop-row-test.true c.row-item.is c.row_is_typed.ensures c.loop-row.invariant

pub returns : goal.returns
returns c = all_end (λ (row : OutRow). IsTypedRow (row_seen row)) c.args.rows.now c.loop-row.row-index (omega (arith, c.loop-row-test.false)) c.loop-row.invariant
