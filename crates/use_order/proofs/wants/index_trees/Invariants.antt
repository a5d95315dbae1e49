use Rattle.std.proofs.Common.{◌≡◌, ◌++◌, drop}
use Rattle.use_order.specs.Order.{index_trees}
use Rattle.use_order.proofs.wants.index_trees.Given as goal

abbrev pub invariant-loop-number : goal.invariant-loop-number
invariant-loop-number l = l.trees.items ++ index_trees l.number (drop l.number l.rows) ≡ index_trees 0 l.rows
