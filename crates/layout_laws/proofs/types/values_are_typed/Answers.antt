use Rattle.std.proofs.Common.{arith}
use Rattle.record_core.proofs.Rows.{stored_more}
use Rattle.layout_laws.proofs.types.values_are_typed.Goals as goal

pub loop-value-preserved : goal.loop-value-preserved
loop-value-preserved c = stored_more c.args.values.now c.loop-value.value-index _ c.loop-value.invariant c.loop-value-test.true c.value-item.is c.value_is_typed.ensures

pub returns : goal.returns
returns c = λ k lt. c.loop-value.invariant k (omega (arith, lt, c.loop-value-test.false))
