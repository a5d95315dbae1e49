use Rattle.page_lists.proofs.Uses.{Moves-append}
use Rattle.page_walk.proofs.Taking.{takes_more}
use Rattle.page_walk.proofs.walks.take_all.Goals as goal

pub loop-page-preserved : goal.loop-page-preserved
loop-page-preserved c = record {
  taken = takes_more c.args.survey.now c.args.kind c.args.list c.args.table.now c.loop-page.table c.take.new.table
      c.args.pages.now c.loop-page.page-index _ c.requires.list_least c.loop-page-test.true c.loop-page.invariant.taken
      c.take.ensures.value;
  moves = Moves-append c.args.list c.args.table.now c.loop-page.table c.take.new.table c.requires.list_least
      c.loop-page.invariant.moves c.take.ensures.moves;
}
