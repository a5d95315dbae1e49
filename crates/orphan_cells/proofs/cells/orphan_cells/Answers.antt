use Rattle.std.proofs.Common.{List, ap, length, map}
use Rattle.std.proofs.lemmas.List.{drop_all}
use Rattle.tree_uses.specs.Trees.{turns_of}
use Rattle.orphan_trees.specs.Orphans.{orphan_of}
use Rattle.orphan_trees.specs.declared.trees.OrphanTree.{OrphanTree}
use Rattle.orphan_cells.proofs.Adding.{adding_end}
use Rattle.orphan_cells.proofs.Limits.{fields_few, orphans_on}
use Rattle.orphan_cells.proofs.cells.orphan_cells.Goals as goal

pub returns-clause-bounds : goal.returns-clause-bounds
returns-clause-bounds c usable pages roots small =
    orphans_on usable pages (map orphan_of c.args.trees.now) (map turns_of c.args.turns.items) c.loop-tree.found roots small
    (adding_end c.loop-tree.invariant (ap (λ (ts : List OrphanTree). length (map orphan_of ts))
    (drop_all c.loop-tree.tree-index c.args.trees.now c.loop-tree-test.false)))

pub returns-clause-fields : goal.returns-clause-fields
returns-clause-fields c usable pages small =
    fields_few usable pages (map orphan_of c.args.trees.now) (map turns_of c.args.turns.items) c.loop-tree.found small
    (adding_end c.loop-tree.invariant (ap (λ (ts : List OrphanTree). length (map orphan_of ts))
    (drop_all c.loop-tree.tree-index c.args.trees.now c.loop-tree-test.false)))
