use Rattle.std.proofs.Common.{◌≡◌, ◌≤◌, ◌+◌, ◌-◌, ◌^◌, drop, length, map, min}
use Rattle.orphan_trees.specs.Orphans.{orphan_of, pages_in}
use Rattle.orphan_cells.proofs.cells.count_pages.Given as goal

abbrev pub invariant-loop-tree : goal.invariant-loop-tree
invariant-loop-tree l =
    (min (l.pages + length (pages_in (map orphan_of (drop l.tree-index l.trees)))) (2 ^ 64 - 1)
    ≡ min (length (pages_in (map orphan_of l.trees))) (2 ^ 64 - 1))
    × (l.pages ≤ 2 ^ 64 - 1)
