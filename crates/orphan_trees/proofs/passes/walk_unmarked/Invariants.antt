use Rattle.std.proofs.Common.{map}
use Rattle.orphan_trees.specs.Orphans.{orphan_of}
use Rattle.orphan_trees.proofs.Sweeping.{Sweeping}
use Rattle.orphan_trees.proofs.passes.walk_unmarked.Given as goal

abbrev pub invariant-loop-before : goal.invariant-loop-before
invariant-loop-before g l =
    Sweeping g.S.Source l.geo l.marks l.before (record { src = l.fn.src; cache = l.fn.cache; table = l.fn.table })
    (record { src = l.src; cache = l.cache; table = l.table }) (map orphan_of l.trees.items)
