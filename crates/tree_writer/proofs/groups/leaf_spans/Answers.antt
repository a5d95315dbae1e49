use Rattle.std.proofs.Common.{ap, sym, refl, subst, ◌∙◌, arith, Vec, Global}
use Rattle.tree_writer.specs.declared.groups.Span.{Span}
use Rattle.tree_writer.proofs.Grouping.{Leafing, leafing_start, leaf_same, leaf_next, leafing_done, begun_room}
use Rattle.tree_writer.proofs.groups.leaf_spans.Goals as goal
use Rattle.tree_writer.proofs.groups.leaf_spans.Goals.{then-size-left, else-size-left+in_ok-push}

pub loop-size-init : goal.loop-size-init
loop-size-init c = rw c.new-spans.ensures.items (leafing_start c.args.sizes.now c.args.room)

pub loop-size-preserved : goal.loop-size-preserved
loop-size-preserved c =
    elim c.if-size-left.branch [
      | then-size-left w ↦ leaf_same _ _ _ _ _ _ _ _ _ _ c.loop-size.invariant c.loop-size-test.true refl w.if-size-left.true
          (ap (λ (v : Vec Span Global). v.items) w.spans-is) w.span-is w.left-is
      | else-size-left+in_ok-push w ↦ leaf_next _ _ _ _ _ _ _ _ _ _ c.loop-size.invariant c.requires c.loop-size-test.true refl w.if-size-left.false
          (ap (λ (v : Vec Span Global). v.items) w.spans-is ∙ w.in_ok-push.ensures.items) w.span-is w.left-is
    ]

pub overflow_add-span : goal.overflow_add-span
overflow_add-span c =
    omega (arith, (begun_room _ _ _ _ _ _ c.loop-size.invariant.begun c.requires c.loop-size-test.true refl).0)

pub returns : goal.returns
returns c = c.in_ok-push-2.ensures.items ∙ leafing_done _ _ _ _ _ _ c.loop-size.invariant c.loop-size-test.false
