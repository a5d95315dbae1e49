use Rattle.std.proofs.Common.{◌∙◌, ap, sym, length}
use Rattle.table_shape.specs.Names.{is_named}
use Rattle.lost_found.proofs.Loops.{number_next}
use Rattle.lost_found.proofs.names.first_free.Goals as goal

pub loop-number-preserved : goal.loop-number-preserved
loop-number-preserved c =
    number_next c.args.base.now c.args.names.now c.loop-number.number (length c.args.names.now) _ c.loop-number-test.true
    (ap (λ name. is_named name c.args.names.now) (sym (c.as_slice.ensures.value ∙ c.in_ok-name.ensures))
    ∙ (sym c.in_ok-is_taken.ensures ∙ c.if-not-branch.false)) c.loop-number.invariant
