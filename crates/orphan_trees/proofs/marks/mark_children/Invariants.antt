use Rattle.std.proofs.Common.{◌≡◌, length}
use Rattle.page_lists.specs.Table.{unused}
use Rattle.orphan_trees.proofs.Marking.{Marking}
use Rattle.orphan_trees.proofs.marks.mark_children.Given as goal

abbrev pub invariant-loop-before : goal.invariant-loop-before
invariant-loop-before g l = record {
  accepted : length l.accepted ≡ l.geo.usable;
  marking : Marking g.S.Source l.geo (unused l.table) l.fn.src l.src l.fn.cache l.cache l.marks.items l.before;
}
