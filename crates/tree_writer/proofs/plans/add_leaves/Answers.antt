use Rattle.std.proofs.Common.{ℕ, arith, refl, ap, sym, ◌∙◌}
use Rattle.tree_writer.specs.declared.plans.PagePlan.{PagePlan}
use Rattle.tree_writer.specs.Planned.{span_at}
use Rattle.tree_writer.proofs.Adding.{adds_leaf, adds_leaves_done}
use Rattle.tree_writer.proofs.plans.add_leaves.Goals as goal

pub loop-span-preserved : goal.loop-span-preserved
loop-span-preserved c =
    let s = span_at c.args.spans.now c.loop-span.span-index in
    let f : ℕ → PagePlan = λ b. record { index = c.loop-span.index; first = s.first; cells = s.cells; behind = b } in
    adds_leaf _ _ _ _ _ _ _ _ c.loop-span.invariant c.loop-span-test.true c.in_ok-push.ensures.items (ap f c.leaf_behind.ensures)
