use Rattle.std.proofs.Common.{◌≡◌, drop, map, max}
use Rattle.salvaged_tables.specs.Salvaged.{lost_seen}
use Rattle.lost_found.specs.Rows.{most_fields}
use Rattle.lost_found.proofs.rows.most_fields.Given as goal

abbrev pub invariant-loop-cell : goal.invariant-loop-cell
invariant-loop-cell l = max l.most (most_fields (map lost_seen (drop l.cell-index l.cells))) ≡ most_fields (map lost_seen l.cells)
