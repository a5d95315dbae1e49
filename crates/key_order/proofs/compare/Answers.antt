use Rattle.std.proofs.Common.{sym, ◌∙◌}
use Rattle.key_order.proofs.Steps.{keys_step, keys_end, decides, leaves}
use Rattle.key_order.proofs.compare.Goals as goal

pub loop-i-preserved : goal.loop-i-preserved
loop-i-preserved g c =
    sym (leaves c.value_order-order.result _ (sym c.ne.ensures ∙ c.if-ne.false))
    ∙ keys_step c.args.colls.now (g.F.Fields.values c.args.a.now) (g.F.Fields.values c.args.b.now) c.loop-i.i
    _ _ _ c.value_order-order.result c.requires.first c.requires.second c.loop-i-test.true
    c.field.ensures c.field-in-loop-i.ensures c.value_order-order.ensures.value
    ∙ c.loop-i.invariant

pub returns : goal.returns
returns g c = record {
  value = sym (keys_end c.args.colls.now _ _ c.loop-i.i c.loop-i-test.false) ∙ c.loop-i.invariant;
}

pub returns-then-ne : goal.returns-then-ne
returns-then-ne g c = record {
  value = sym (decides c.value_order-order.result _ (sym c.ne.ensures ∙ c.if-ne.true))
      ∙ keys_step c.args.colls.now (g.F.Fields.values c.args.a.now) (g.F.Fields.values c.args.b.now) c.loop-i.i
      _ _ _ c.value_order-order.result c.requires.first c.requires.second c.loop-i-test.true
      c.field.ensures c.field-in-loop-i.ensures c.value_order-order.ensures.value
      ∙ c.loop-i.invariant;
}
