use Rattle.std.proofs.Common.{◌≡◌, take, map, true}
use Rattle.tree_writer.specs.Entry.{leaf_item}
use Rattle.tree_writer.specs.Plan.{size_item}
use Rattle.tree_writer.proofs.plans.leaf_sizes.Given as goal

abbrev pub invariant-loop-i : goal.invariant-loop-i
invariant-loop-i g l = l.sizes.items ≡ map (λ e. size_item l.usable l.kind true (leaf_item e)) (take l.i (g.N.Entries.entries l.entries))
