use Rattle.std.proofs.Common.{◌≡◌, ◌≤◌, ◌++◌, ◌-◌, length, map}
use Rattle.std.specs.Vec.Iter.{into_iter_items}
use Rattle.page_walk.specs.InTurn.{turn_of}
use Rattle.tree_uses.proofs.reads.next_turns.Given as goal

abbrev pub invariant-loop-left : goal.invariant-loop-left
invariant-loop-left l = record {
  joined : map turn_of l.turns.items ++ map turn_of (into_iter_items l.left) ≡ map turn_of (into_iter_items l.fn.left);
  few : length l.turns.items ≤ l.count;
}

abbrev pub decreases-loop-left : goal.decreases-loop-left
decreases-loop-left l = l.count - length l.turns.items
