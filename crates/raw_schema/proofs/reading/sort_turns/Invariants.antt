use Rattle.std.specs.Vec.Iter.{into_iter_items}
use Rattle.raw_schema.proofs.Turns.{SortingTurns}
use Rattle.raw_schema.proofs.reading.sort_turns.Given as goal

abbrev pub invariant-loop-turn : goal.invariant-loop-turn
invariant-loop-turn l =
    SortingTurns l.fn.turns.items (into_iter_items l.turn-iterator) l.rows.items l.bad.items l.notes.items
