use Rattle.std.proofs.Common.{◌≡◌, ◌≤◌, ◌-◌, length, drop}
use Rattle.std.specs.Cmp.Lexicographic.{slice_cmp}
use Rattle.key_order.specs.Order.{value_cmp}
use Rattle.key_order.proofs.folds.folds_order.Given as goal

abbrev pub invariant-loop-i : goal.invariant-loop-i
invariant-loop-i l = record {
  first : l.i ≤ length l.a;
  second : l.i ≤ length l.b;
  same : slice_cmp value_cmp (drop l.i l.a) (drop l.i l.b) ≡ slice_cmp value_cmp l.a l.b;
}

abbrev pub decreases-loop-i : goal.decreases-loop-i
decreases-loop-i l = length l.a - l.i
