use Rattle.std.proofs.Common.{arith}
use Rattle.record_core.specs.Shortest.{body_of}
use Rattle.record_core.proofs.Rows.{wrote_room, wrote_next, stored_more}
use Rattle.record_core.proofs.writing.put_bodies.Goals as goal

pub put_body-end-requires : goal.put_body-end-requires
put_body-end-requires g c =
    let room = wrote_room body_of (g.F.Fields.values c.args.values.now) _ _ c.loop-i.i c.loop-i.to c.loop-i.end c.field.result.now c.loop-i.invariant.0 c.requires (omega arith) c.field.ensures in
    omega (arith, room, c.loop-i.auto.to)

pub loop-i-preserved : goal.loop-i-preserved
loop-i-preserved g c = (
  wrote_next body_of (g.F.Fields.values c.args.values.now) _ _ c.loop-i.i c.loop-i.to c.loop-i.end c.field.result.now c.put_body-end.new.to c.put_body-end.result c.loop-i.invariant.0 c.requires (omega arith) c.field.ensures
      c.put_body-end.ensures.after c.put_body-end.ensures.end,
  stored_more (g.F.Fields.values c.args.values.now) c.loop-i.i c.field.result.now c.loop-i.invariant.1 (omega arith) c.field.ensures c.put_body-end.ensures.stored,
)
