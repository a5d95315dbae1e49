use Rattle.std.proofs.Common.{◌≡◌, ◌++◌, drop}
use Rattle.salvage_core.specs.Lost.{schema_names}
use Rattle.salvage_core.proofs.lost.names_of.Given as goal

abbrev pub invariant-loop-row : goal.invariant-loop-row
invariant-loop-row l = l.names.items ++ schema_names (drop l.row-index l.rows) ≡ schema_names l.rows
