use Rattle.std.proofs.Common.{◌∙◌}
use Rattle.lost_found.proofs.Loops.{column_next}
use Rattle.lost_found.proofs.shapes.columns_of.Goals as goal

pub loop-field-preserved : goal.loop-field-preserved
loop-field-preserved c =
    column_next c.loop-field.columns.items c.add_column.new.to.items _ c.as_slice.result.now c.loop-field.field c.args.fields
    c.loop-field-test.true (c.as_slice.ensures.value ∙ c.in_ok-field_name.ensures) c.in_ok-add_column.ensures c.loop-field.invariant
