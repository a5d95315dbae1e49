use Rattle.std.proofs.Common.{◌≡◌, ◌≤◌, ◌*◌, take, sum_by}
use Rattle.tree_writer.specs.Plan.{need_in}
use Rattle.tree_writer.proofs.plans.needs_of.Given as goal

abbrev pub invariant-loop-size : goal.invariant-loop-size
invariant-loop-size l = (l.needs ≡ sum_by need_in (take l.size-index l.sizes)) × (l.needs ≤ 4294967296 * l.size-index)
