use Rattle.std.proofs.Common.{ap, length, arith}
use Rattle.table_shape.specs.Shape.{key_seen}
use Rattle.db_builder.proofs.Standing.{few_key}
use Rattle.db_builder.proofs.places.places_of.Goals as goal

pub push-requires : goal.push-requires
push-requires c =
    let s = c.args.shape.now in
    (omega arith, omega (arith, few_key s.columns.items (key_seen c.args.key.now) s.valid.few c.requires, ap length c.as_slice-column-items.ensures.value, c.loop-column-test.true, c.loop-column.invariant.1))

pub add_followers-requires-clause-room : goal.add_followers-requires-clause-room
add_followers-requires-clause-room c =
    let s = c.args.shape.now in
    omega (arith, few_key s.columns.items (key_seen c.args.key.now) s.valid.few c.requires, ap length c.as_slice-column-items.ensures.value, c.loop-column-test.false, c.loop-column.invariant.1)
