use Rattle.std.proofs.Common.{◌≡◌, take, sum_by}
use Rattle.tree_writer.specs.Plan.{overs_in}
use Rattle.tree_writer.proofs.plans.overs_in.Given as goal

abbrev pub invariant-loop-size : goal.invariant-loop-size
invariant-loop-size l = l.overs ≡ sum_by overs_in (take l.size-index l.sizes)
