use Rattle.std.proofs.Common.{◌≡◌, drop}
use Rattle.std.specs.Cmp.Lexicographic.{slice_cmp}
use Rattle.key_order.specs.Order.{value_cmp}
use Rattle.table_shape.specs.Keys.{key_of}
use Rattle.table_shape.specs.Seen.{row_seen}
use Rattle.db_builder.proofs.orders.keys_order.Given as goal

abbrev pub invariant-loop-part : goal.invariant-loop-part
invariant-loop-part l =
    let rest = drop l.part-index l.parts in
    slice_cmp value_cmp (key_of rest (row_seen l.a)) (key_of rest (row_seen l.b))
    ≡ slice_cmp value_cmp (key_of l.parts (row_seen l.a)) (key_of l.parts (row_seen l.b))
