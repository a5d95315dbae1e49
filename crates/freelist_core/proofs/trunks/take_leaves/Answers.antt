use Rattle.std.proofs.Common.{arith}
use Rattle.page_lists.specs.Lists.{firsts}
use Rattle.page_lists.specs.Table.{unused}
use Rattle.freelist_core.specs.Trunk.{leaves_from}
use Rattle.freelist_core.proofs.Leaves.{leaf_moved, lists_kept}
use Rattle.freelist_core.proofs.trunks.take_leaves.Goals as goal

pub loop-k-preserved : goal.loop-k-preserved
loop-k-preserved c = record {
  lists = omega (arith, lists_kept (firsts (unused c.loop-k.table) (leaves_from c.args.page.now c.loop-k.k 1)) c.loop-k.table c.take_leaf.new.table c.take_leaf.ensures, c.loop-k.invariant.lists);
  moved = leaf_moved c.args.page.now c.loop-k.k c.args.table.now c.loop-k.table c.take_leaf.new.table c.loop-k.invariant.moved c.take_leaf.ensures;
}
