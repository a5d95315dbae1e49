use Rattle.std.proofs.Common.{arith, inl, inr, sym, ◌∙◌}
use Rattle.key_order.proofs.Steps.{folds_step, folds_end, decides, leaves}
use Rattle.key_order.proofs.folds.folds_order.Goals as goal
use Rattle.key_order.proofs.folds.folds_order.Goals.{then-loop-i-test+else-i-b, else-loop-i-test}

pub returns : goal.returns
returns c =
    let inv = c.loop-i.invariant in
    c.cmp.ensures
    ∙ sym (folds_end c.args.a.now c.args.b.now c.loop-i.i inv.first inv.second (elim c.loop-i-test.branch [
      | then-loop-i-test+else-i-b w ↦ inr w.if-i-b.false
      | else-loop-i-test w ↦ inl w.loop-i-test.false
    ]))
    ∙ inv.same

pub loop-i-preserved : goal.loop-i-preserved
loop-i-preserved c =
    record {
      first = omega arith;
      second = omega arith;
      same = sym (leaves c.value_order-order.result _ (sym c.ne.ensures ∙ c.if-ne.false))
          ∙ folds_step c.args.a.now c.args.b.now c.loop-i.i _ _ _ c.loop-i-test.true c.if-i-b.true
          c.index-a-i.is c.index-b-i.is c.value_order-order.ensures.value
          ∙ c.loop-i.invariant.same;
    }

pub returns-then-ne : goal.returns-then-ne
returns-then-ne c =
    sym (decides c.value_order-order.result _ (sym c.ne.ensures ∙ c.if-ne.true))
    ∙ folds_step c.args.a.now c.args.b.now c.loop-i.i _ _ _ c.loop-i-test.true c.if-i-b.true
    c.index-a-i.is c.index-b-i.is c.value_order-order.ensures.value
    ∙ c.loop-i.invariant.same
