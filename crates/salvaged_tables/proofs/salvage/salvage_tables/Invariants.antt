use Rattle.salvaged_tables.specs.Steps.{AreSaved}
use Rattle.salvaged_tables.proofs.salvage.salvage_tables.Given as goal

abbrev pub invariant-loop-row : goal.invariant-loop-row
invariant-loop-row l = AreSaved l.rows l.fn.readings.items l.trees l.fn.turns.items l.row-index l.left l.found
