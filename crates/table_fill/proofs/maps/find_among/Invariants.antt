use Rattle.std.proofs.Common.{◌≡◌, drop}
use Rattle.table_fill.specs.Maps.{found_by}
use Rattle.table_fill.proofs.maps.find_among.Given as goal

abbrev pub invariant-loop-i : goal.invariant-loop-i
invariant-loop-i l = found_by (drop l.i l.maps) (drop l.i l.keys) ≡ found_by l.maps l.keys
