use Rattle.std.specs.Vec.Iter.{into_iter_items, into_iter_len}
use Rattle.page_walk.proofs.Sorting.{Sorting}
use Rattle.page_walk.proofs.rows.sort_outcomes.Given as goal

abbrev pub invariant-loop-outcome : goal.invariant-loop-outcome
invariant-loop-outcome l =
    Sorting l.fn.outcomes.items l.fn.to.items l.to.items l.notes (into_iter_items l.outcome-iterator)
    (into_iter_len l.outcome-iterator)
