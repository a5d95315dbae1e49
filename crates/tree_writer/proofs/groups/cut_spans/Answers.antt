use Rattle.std.proofs.Common.{ap, sym, refl, subst, ◌∙◌, arith, Vec, Global}
use Rattle.tree_writer.specs.declared.groups.Span.{Span}
use Rattle.tree_writer.proofs.Grouping.{cutting_start, cut_same, cut_next, cut_last, cutting_done, gives_up, begun_room}
use Rattle.tree_writer.proofs.groups.cut_spans.Goals as goal
use Rattle.tree_writer.proofs.groups.cut_spans.Goals.{then-size-left, else-size-left+then-i-sizes+in_ok-push, else-size-left+else-i-sizes+in_ok-push-2}

pub loop-i-init : goal.loop-i-init
loop-i-init c = rw c.new-spans.ensures.items (cutting_start c.args.sizes.now c.args.room)

pub loop-i-preserved : goal.loop-i-preserved
loop-i-preserved c =
    elim c.if-size-left.branch [
      | then-size-left w ↦ cut_same _ _ _ _ _ _ _ _ _ _ c.loop-i.invariant c.loop-i-test.true refl w.if-size-left.true
          (ap (λ (v : Vec Span Global). v.items) w.spans-is) w.span-is w.left-is
      | else-size-left+then-i-sizes+in_ok-push w ↦ cut_next _ _ _ _ _ _ _ _ _ _ c.loop-i.invariant w.if-i-sizes.true refl w.if-size-left.false
          (ap (λ (v : Vec Span Global). v.items) w.spans-is ∙ w.in_ok-push.ensures.items) w.span-is w.left-is
      | else-size-left+else-i-sizes+in_ok-push-2 w ↦ cut_last _ _ _ _ _ _ _ _ _ _ _
          (gives_up _ _ _ _ _ _ _ _ c.loop-i.invariant (omega arith) refl w.if-size-left.false (c.requires.fit c.loop-i.i c.loop-i-test.true) refl)
          (ap (λ (v : Vec Span Global). v.items) w.spans-is ∙ w.in_ok-push-2.ensures.items) w.span-is w.left-is
    ]

pub returns : goal.returns
returns c = c.in_ok-push-3.ensures.items ∙ cutting_done _ _ _ _ _ _ c.loop-i.invariant c.loop-i-test.false
