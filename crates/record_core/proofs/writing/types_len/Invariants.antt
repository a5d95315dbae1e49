use Rattle.std.proofs.Common.{◌≡◌, ◌≤◌, ◌*◌, length, take}
use Rattle.record_core.specs.Shortest.{types_of}
use Rattle.record_core.proofs.writing.types_len.Given as goal

abbrev pub invariant-loop-i : goal.invariant-loop-i
invariant-loop-i g l = (l.total ≡ length (types_of (take l.i (g.F.Fields.values l.values)))) × (l.total ≤ 9 * l.i)
