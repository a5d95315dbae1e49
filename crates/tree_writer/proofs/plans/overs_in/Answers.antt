use Rattle.std.proofs.Common.{arith}
use Rattle.std.proofs.lemmas.List.Sums.{sum_by_more}
use Rattle.tree_writer.specs.Plan.{overs_in, no_size}
use Rattle.tree_writer.proofs.plans.overs_in.Goals as goal

pub loop-size-preserved : goal.loop-size-preserved
loop-size-preserved c =
    let more = sum_by_more overs_in c.args.sizes.now c.loop-size.size-index no_size c.loop-size-test.true in
    omega (arith, more, c.loop-size.invariant)
