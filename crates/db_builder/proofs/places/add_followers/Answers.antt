use Rattle.std.proofs.Common.{ap, length, arith}
use Rattle.table_shape.specs.Seen.{shape_seen}
use Rattle.table_shape.proofs.Few.{few_primary}
use Rattle.db_builder.proofs.places.add_followers.Goals as goal

pub push-requires-then-follows : goal.push-requires-then-follows
push-requires-then-follows c =
    let s = c.args.shape.now in
    (omega arith, omega (arith, few_primary (shape_seen s) s.valid, ap length c.as_slice-column-items.ensures.value, c.loop-column-test.true, c.loop-column.invariant.1))
