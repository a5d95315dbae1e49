use Rattle.std.proofs.Common.{◌≡◌, ◌≤◌, length}
use Rattle.page_lists.specs.Lists.{firsts}
use Rattle.page_lists.specs.Table.{all_moved, unused}
use Rattle.freelist_core.specs.Trunk.{leaves_from}
use Rattle.freelist_core.specs.declared.TheConstants.{FREE_LIST}
use Rattle.freelist_core.proofs.trunks.take_leaves.Given as goal

abbrev pub invariant-loop-k : goal.invariant-loop-k
invariant-loop-k l = record {
  lists : 6 ≤ length l.table.lists;
  moved : l.table ≡ all_moved (firsts (unused l.fn.table) (leaves_from l.page 0 l.k)) FREE_LIST l.fn.table;
}
