use Rattle.std.proofs.Common.{map, drop}
use Rattle.tree_uses.specs.Trees.{turns_of}
use Rattle.orphan_trees.specs.Orphans.{orphan_of}
use Rattle.orphan_uses.proofs.Turning.{Turning}
use Rattle.orphan_uses.proofs.turns.read_orphans.Given as goal

abbrev pub invariant-loop-tree : goal.invariant-loop-tree
invariant-loop-tree g l = Turning g.S.Source l.geo (map orphan_of l.trees) (map orphan_of (drop l.tree-index l.trees))
    (record { src = l.fn.src; cache = l.fn.cache; table = l.fn.table }) (record { src = l.src; cache = l.cache; table = l.table }) (map turns_of l.turns.items)
