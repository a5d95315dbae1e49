use Rattle.std.proofs.Common.{◌≡◌, ◌≤◌, ◌++◌, length, map}
use Rattle.std.specs.List.{AllByRecursion, flat_map}
use Rattle.std.specs.Vec.Iter.{into_iter_items}
use Rattle.page_walk.specs.Cells.{row_of}
use Rattle.page_walk.specs.InTurn.{turn_of}
use Rattle.raw_schema.specs.Schema.{cells_in, noted}
use Rattle.table_parts.proofs.cells.cells_of.Given as goal

abbrev pub invariant-loop-turn : goal.invariant-loop-turn
invariant-loop-turn l = record {
  cells : map row_of l.cells.items ++ cells_in (map turn_of (into_iter_items l.turn-iterator)) ≡ cells_in (map turn_of l.fn.turns.items);
  notes : l.notes.items ++ flat_map noted (map turn_of (into_iter_items l.turn-iterator)) ≡ flat_map noted (map turn_of l.fn.turns.items);
  few : AllByRecursion (λ t. length t.outcomes.items ≤ 32768) (into_iter_items l.turn-iterator);
}
