use Rattle.std.proofs.Common.{◌∙◌}
use Rattle.page_walk.specs.Taking.{is_of_kind}
use Rattle.orphan_trees.proofs.Marking.{mark_more}
use Rattle.orphan_trees.proofs.marks.mark_all.Goals as goal

pub loop-page-preserved : goal.loop-page-preserved
loop-page-preserved c = record {
  len = c.mark.ensures.len ∙ c.loop-page.invariant.len;
  marked = mark_more (is_of_kind c.args.survey.now c.args.pages c.args.kind) c.args.named.now c.loop-page.page-index _ c.loop-page.marks c.mark.new.marks _
      c.loop-page-test.true c.mark.ensures.value c.loop-page.invariant.marked;
}
