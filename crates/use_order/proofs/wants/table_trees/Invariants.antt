use Rattle.std.proofs.Common.{◌≡◌, ◌++◌, drop, map}
use Rattle.use_order.specs.Order.{table_tree}
use Rattle.use_order.proofs.wants.table_trees.Given as goal

abbrev pub invariant-loop-reading : goal.invariant-loop-reading
invariant-loop-reading l = l.trees.items ++ map table_tree (drop l.reading-index l.readings) ≡ map table_tree l.readings
