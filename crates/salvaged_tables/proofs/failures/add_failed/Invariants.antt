use Rattle.std.proofs.Common.{◌≡◌, ◌++◌, map, drop}
use Rattle.std.specs.List.{flat_map}
use Rattle.page_walk.specs.InTurn.{turn_of}
use Rattle.salvaged_tables.specs.Fates.{failed_on}
use Rattle.salvaged_tables.specs.Salvaged.{failed_seen}
use Rattle.salvaged_tables.proofs.failures.add_failed.Given as goal

abbrev pub invariant-loop-turn : goal.invariant-loop-turn
invariant-loop-turn l = map failed_seen l.to.items ++ flat_map (failed_on l.root) (map turn_of (drop l.turn-index l.turns))
    ≡ map failed_seen l.fn.to.items ++ flat_map (failed_on l.root) (map turn_of l.turns)
