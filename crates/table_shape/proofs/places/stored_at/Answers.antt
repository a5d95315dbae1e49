use Rattle.std.proofs.Common.{◌≤◌, arith, length}
use Rattle.table_shape.proofs.Few.{few_primary}
use Rattle.table_shape.specs.Seen.{shape_seen}
use Rattle.table_shape.proofs.places.stored_at.Goals as goal

pub overflow_cast-result : goal.overflow_cast-result
overflow_cast-result c =
    let few : length c.as_slice.result.now ≤ 2000 = rw c.as_slice.ensures.value
    (few_primary (shape_seen c.args.shape.now) c.args.shape.now.valid) in
    omega (arith, c.args.shape.now.valid.few, c.place_of.ensures.bound)
