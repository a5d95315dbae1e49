use Rattle.varint_core.specs.Shortest.{spell}
use Rattle.record_core.specs.Shortest.{serial_type}
use Rattle.record_core.proofs.Rows.{Wrote}
use Rattle.record_core.proofs.writing.put_types.Given as goal

abbrev pub invariant-loop-i : goal.invariant-loop-i
invariant-loop-i g l = Wrote (λ v. spell (serial_type v)) (g.F.Fields.values l.values) l.initial.to l.at l.i l.to l.end
