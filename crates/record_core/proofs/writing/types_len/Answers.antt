use Rattle.std.proofs.Common.{arith}
use Rattle.varint_core.specs.Shortest.{spell}
use Rattle.record_core.specs.Shortest.{serial_type}
use Rattle.record_core.proofs.Rows.{pieces_len}
use Rattle.record_core.proofs.writing.types_len.Goals as goal

pub loop-i-preserved : goal.loop-i-preserved
loop-i-preserved g c =
    let more = pieces_len (λ v. spell (serial_type v)) (g.F.Fields.values c.args.values.now) c.loop-i.i c.field.result.now (omega arith) c.field.ensures in
    (omega (arith, c.loop-i.invariant.0, more, c.type_len-total.ensures.value), omega (arith, c.loop-i.invariant.1, c.type_len-total.ensures.short))
