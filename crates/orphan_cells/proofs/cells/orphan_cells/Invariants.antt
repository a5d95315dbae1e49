use Rattle.std.proofs.Common.{map, drop}
use Rattle.std.specs.Vec.Iter.{into_iter_items}
use Rattle.tree_uses.specs.Trees.{turns_of}
use Rattle.orphan_trees.specs.Orphans.{orphan_of}
use Rattle.orphan_cells.proofs.Adding.{Adding}
use Rattle.orphan_cells.proofs.cells.orphan_cells.Given as goal

abbrev pub invariant-loop-tree : goal.invariant-loop-tree
invariant-loop-tree l = Adding (map orphan_of l.trees) (map orphan_of (drop l.tree-index l.trees)) (map turns_of l.fn.turns.items)
    (map turns_of (into_iter_items l.left)) l.found
