use Rattle.std.proofs.Common.{◌≡◌, ◌≤◌, ◌<◌, ◌-◌, length}
use Rattle.tree_writer.specs.Planned.{plan_at}
use Rattle.tree_writer.proofs.plans.TreePlan.find.Given as goal

abbrev pub invariant-halves : goal.invariant-halves
invariant-halves l = record {
  order : l.low < l.high;
  end : l.high ≤ length l.self.pages.items;
  below : (plan_at l.self.pages.items l.low).index ≤ l.k;
  above : l.high < length l.self.pages.items → l.k < (plan_at l.self.pages.items l.high).index;
}

abbrev pub decreases-halves : goal.decreases-halves
decreases-halves l = l.high - l.low
