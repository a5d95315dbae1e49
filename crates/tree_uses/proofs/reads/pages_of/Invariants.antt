use Rattle.std.proofs.Common.{◌≡◌, ◌++◌, map, drop}
use Rattle.tree_uses.specs.Trees.{pages_in, tree_of}
use Rattle.tree_uses.proofs.reads.pages_of.Given as goal

abbrev pub invariant-loop-tree : goal.invariant-loop-tree
invariant-loop-tree l = l.pages.items ++ pages_in (map tree_of (drop l.tree-index l.trees)) ≡ pages_in (map tree_of l.trees)
