use Rattle.std.proofs.Common.{arith, ◌≤◌, ◌≡◌, ◌+◌, length, rules}
use Rattle.record_core.proofs.InTurn.{left_step}
use Rattle.record_core.proofs.Apart.{but_start, but_pushed}
use Rattle.record_core.proofs.reading.values_but.Goals as goal

pub types-init : goal.types-init
types-init c = but_start c.args.types.now c.args.bodies.now c.args.long _ c.requires c.in_ok-values.ensures.items

pub overflow_add-end : goal.overflow_add-end
overflow_add-end c =
    let n = left_step _ _ _ _ _ c.read_varint.result c.unwrap-kind.result c.types.invariant.left c.types-test.true c.read_varint.ensures.exact c.read_varint.ensures.there c.unwrap-kind.ensures in
    let fits : c.types.from + c.body_len.result ≤ length c.args.bodies.now = omega (arith, n.fits, c.body_len.ensures.value) in
    search (rules, fits)

pub slice_bounds-value_or_null-end : goal.slice_bounds-value_or_null-end
slice_bounds-value_or_null-end c =
    let n = left_step _ _ _ _ _ c.read_varint.result c.unwrap-kind.result c.types.invariant.left c.types-test.true c.read_varint.ensures.exact c.read_varint.ensures.there c.unwrap-kind.ensures in
    let fits : c.types.from + c.body_len.result ≤ length c.args.bodies.now = omega (arith, n.fits, c.body_len.ensures.value) in
    search (rules, fits)

pub types-preserved : goal.types-preserved
types-preserved c =
    let n = left_step _ _ _ _ _ c.read_varint.result c.unwrap-kind.result c.types.invariant.left c.types-test.true c.read_varint.ensures.exact c.read_varint.ensures.there c.unwrap-kind.ensures in
    let place : c.len.result ≡ length c.types.values.items = search rules in
    but_pushed _ _ _ _ _ _ _ _ c.body_len.result c.len.result _ c.is_long_at-is_long.result _ c.types.invariant n c.body_len.ensures.value place
    c.is_long_at-is_long.ensures c.in_ok-value_or_null.ensures c.in_ok-push.ensures.items
