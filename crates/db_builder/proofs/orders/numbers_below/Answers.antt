use Rattle.std.proofs.Common.{◌++◌, ◌∷◌, [], ap, arith, sym, ◌∙◌}
use Rattle.db_builder.proofs.Ordered.{range_more}
use Rattle.db_builder.proofs.orders.numbers_below.Goals as goal

pub loop-number-preserved : goal.loop-number-preserved
loop-number-preserved c =
    c.in_ok-push.ensures.items ∙ ap (λ xs. xs ++ c.loop-number.number ∷ []) c.loop-number.invariant
    ∙ sym (range_more 0 c.loop-number.number c.loop-number.number (omega arith))
