use Rattle.std.proofs.Common.{◌≡◌, List, ℕ, ◌++◌, map, drop}
use Rattle.page_access.specs.Files.{file_of}
use Rattle.page_lists.specs.Lists.{IsPartOf}
use Rattle.page_lists.specs.Table.{unused}
use Rattle.page_walk.proofs.InTurn.{Stepping}
use Rattle.tree_uses.specs.Trees.{IsTreeOf, pages_in, pages_of, tree_for, tree_of, tree_row, wanted_row}
use Rattle.tree_uses.specs.declared.walks.WantedTree.{WantedTree}
use Rattle.tree_uses.proofs.walks.walk_trees.Given as goal

abbrev pub invariant-loop-tree : goal.invariant-loop-tree
invariant-loop-tree g l = record {
  steps : Stepping g.S.Source l.geo
      (record {
        list = l.list;
        reads = 0;
        give = λ (all : List ℕ) (w : WantedTree) (u : List ℕ). tree_for (file_of all l.geo) l.list w u;
        taken = pages_of;
        Good = IsTreeOf l.geo.pages;
      })
      l.wanted (drop l.tree-index l.wanted)
      (record { src = l.fn.src; cache = l.fn.cache; table = l.fn.table }) (record { src = l.src; cache = l.cache; table = l.table }) (map tree_of l.trees.items);
  part : IsPartOf (pages_in (map tree_of l.trees.items)) (unused l.fn.table);
  rows : map tree_row (map tree_of l.trees.items) ++ map wanted_row (drop l.tree-index l.wanted) ≡ map wanted_row l.wanted;
}
