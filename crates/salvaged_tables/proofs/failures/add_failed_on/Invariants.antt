use Rattle.std.proofs.Common.{◌≡◌, ◌++◌, map, drop}
use Rattle.std.specs.List.{flat_map}
use Rattle.page_walk.specs.Cells.{outcome_of}
use Rattle.salvaged_tables.specs.Fates.{failed_one}
use Rattle.salvaged_tables.specs.Salvaged.{failed_seen}
use Rattle.salvaged_tables.proofs.failures.add_failed_on.Given as goal

abbrev pub invariant-loop-outcome : goal.invariant-loop-outcome
invariant-loop-outcome l = map failed_seen l.to.items
    ++ flat_map (failed_one l.root l.turn.page) (map outcome_of (drop l.outcome-index l.turn.outcomes.items))
    ≡ map failed_seen l.fn.to.items ++ flat_map (failed_one l.root l.turn.page) (map outcome_of l.turn.outcomes.items)
