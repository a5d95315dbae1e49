use Rattle.std.proofs.Common.{◌∙◌, ap, ◌++◌}
use Rattle.lost_found.proofs.Loops.{text_next}
use Rattle.lost_found.proofs.texts.add_fields.Goals as goal

pub loop-field-preserved : goal.loop-field-preserved
loop-field-preserved c =
    text_next c.loop-field.to.items c.extend_from_slice.new.self.items c.extend_from_slice-in-loop-field.new.self.items _ c.loop-field.field c.args.fields
    c.loop-field-test.true c.in_ok-extend_from_slice.ensures.items
    (c.in_ok-extend_from_slice-2.ensures.items ∙ ap (λ z. c.extend_from_slice.new.self.items ++ z) (c.as_slice.ensures.value ∙ c.in_ok-field_name.ensures))
    c.loop-field.invariant
