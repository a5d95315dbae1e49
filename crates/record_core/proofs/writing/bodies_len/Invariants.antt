use Rattle.std.proofs.Common.{◌≡◌, ◌≤◌, ◌+◌, ◌*◌, ◌^◌, length, take, sum_by}
use Rattle.record_core.specs.Record.{value_len}
use Rattle.record_core.specs.Shortest.{bodies_of}
use Rattle.record_core.proofs.writing.bodies_len.Given as goal

abbrev pub invariant-loop-i : goal.invariant-loop-i
invariant-loop-i g l = record {
  value : l.total ≡ length (bodies_of (take l.i (g.F.Fields.values l.values)));
  most : l.total ≤ sum_by value_len (take l.i (g.F.Fields.values l.values)) + 8 * l.i;
  fits : l.total ≤ 2 ^ 64 * l.i;
}
