use Rattle.std.proofs.Common.{◌≡◌, take}
use Rattle.db_builder.specs.SoFar.{IsSoFar}
use Rattle.db_builder.specs.Trees.{trees_of}
use Rattle.db_builder.proofs.plans.plan_trees.Given as goal

abbrev pub invariant-loop-i : goal.invariant-loop-i
invariant-loop-i l = (l.planner.page_size ≡ l.page_size) × IsSoFar l.tables (trees_of (take l.i l.tables)) l.planner
