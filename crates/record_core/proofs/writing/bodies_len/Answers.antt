use Rattle.std.proofs.Common.{arith}
use Rattle.record_core.specs.Shortest.{body_of}
use Rattle.record_core.proofs.Rows.{pieces_len, text_sum}
use Rattle.record_core.proofs.writing.bodies_len.Goals as goal

pub loop-i-preserved : goal.loop-i-preserved
loop-i-preserved g c =
    let more = pieces_len body_of (g.F.Fields.values c.args.values.now) c.loop-i.i c.field.result.now (omega arith) c.field.ensures in
    let sum = text_sum (g.F.Fields.values c.args.values.now) c.loop-i.i c.field.result.now (omega arith) c.field.ensures in
    record {
      value = omega (arith, c.loop-i.invariant.value, more, c.body_size.ensures.value);
      most = omega (arith, c.loop-i.invariant.most, sum, c.body_size.ensures.bound);
      fits = omega (arith, c.loop-i.invariant.fits);
    }
