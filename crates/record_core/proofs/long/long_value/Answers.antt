use Rattle.std.proofs.Common.{arith, ◌≤◌, ◌+◌, length, rules}
use Rattle.record_core.proofs.InTurn.{left_step}
use Rattle.record_core.proofs.Apart.{search_start, search_next, search_found}
use Rattle.record_core.proofs.long.long_value.Goals as goal

pub types-init : goal.types-init
types-init c = search_start c.args.types.now c.args.bodies.now c.requires

pub overflow_add-end : goal.overflow_add-end
overflow_add-end c =
    let n = left_step _ _ _ _ _ c.read_varint.result c.unwrap-kind.result c.types.invariant.left c.types-test.true c.read_varint.ensures.exact c.read_varint.ensures.there c.unwrap-kind.ensures in
    let fits : c.types.from + c.body_len.result ≤ length c.args.bodies.now = omega (arith, n.fits, c.body_len.ensures.value) in
    search (rules, fits)

pub returns-then-is_long : goal.returns-then-is_long
returns-then-is_long c =
    let n = left_step _ _ _ _ _ c.read_varint.result c.unwrap-kind.result c.types.invariant.left c.types-test.true c.read_varint.ensures.exact c.read_varint.ensures.there c.unwrap-kind.ensures in
    search_found _ _ _ _ _ _ _ c.body_len.result c.types.invariant n c.body_len.ensures.value (c.is_long.ensures c.if-is_long.true)

pub types-preserved : goal.types-preserved
types-preserved c =
    let n = left_step _ _ _ _ _ c.read_varint.result c.unwrap-kind.result c.types.invariant.left c.types-test.true c.read_varint.ensures.exact c.read_varint.ensures.there c.unwrap-kind.ensures in
    search_next _ _ _ _ _ _ _ c.body_len.result c.types.invariant n c.body_len.ensures.value
