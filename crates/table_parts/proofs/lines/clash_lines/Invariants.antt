use Rattle.std.proofs.Common.{◌≡◌, ◌++◌, drop, map}
use Rattle.table_fill.specs.Chosen.{left_seen}
use Rattle.table_parts.specs.Lines.{clash_lines}
use Rattle.table_parts.proofs.lines.clash_lines.Given as goal

abbrev pub invariant-loop-cell : goal.invariant-loop-cell
invariant-loop-cell l = l.lines.items ++ clash_lines l.name (map left_seen (drop l.cell-index l.left)) ≡ clash_lines l.name (map left_seen l.left)
