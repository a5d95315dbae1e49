use Rattle.std.proofs.Common.{◌≡◌, ◌++◌, map, drop}
use Rattle.std.specs.Vec.Iter.{into_iter_items}
use Rattle.page_walk.specs.InTurn.{turn_of}
use Rattle.tree_uses.specs.Trees.{split_turns, tree_of, turns_of}
use Rattle.tree_uses.proofs.reads.split_turns.Given as goal

abbrev pub invariant-loop-tree : goal.invariant-loop-tree
invariant-loop-tree l =
    map turns_of l.split.items ++ split_turns (map tree_of (drop l.tree-index l.trees)) (map turn_of (into_iter_items l.left))
    ≡ split_turns (map tree_of l.trees) (map turn_of l.fn.turns.items)
