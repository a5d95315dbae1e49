use Rattle.std.proofs.Common.{arith}
use Rattle.varint_core.specs.Shortest.{spell}
use Rattle.record_core.specs.Shortest.{serial_type}
use Rattle.record_core.proofs.Rows.{wrote_room, wrote_next, text_small}
use Rattle.record_core.proofs.writing.put_types.Goals as goal

pub put_type-end-requires-clause-short : goal.put_type-end-requires-clause-short
put_type-end-requires-clause-short g c = text_small (g.F.Fields.values c.args.values.now) c.loop-i.i c.field.result.now c.requires.fit (omega arith) c.field.ensures

pub put_type-end-requires-clause-room : goal.put_type-end-requires-clause-room
put_type-end-requires-clause-room g c =
    let room = wrote_room (λ v. spell (serial_type v)) (g.F.Fields.values c.args.values.now) _ _ c.loop-i.i c.loop-i.to c.loop-i.end c.field.result.now c.loop-i.invariant c.requires.room (omega arith) c.field.ensures in
    omega (arith, room, c.loop-i.auto.to)

pub loop-i-preserved : goal.loop-i-preserved
loop-i-preserved g c =
    wrote_next (λ v. spell (serial_type v)) (g.F.Fields.values c.args.values.now) _ _ c.loop-i.i c.loop-i.to c.loop-i.end c.field.result.now c.put_type-end.new.to c.put_type-end.result c.loop-i.invariant c.requires.room (omega arith) c.field.ensures
    c.put_type-end.ensures.after c.put_type-end.ensures.end
