use Rattle.std.proofs.Common.{rules, ◌<◌}
use Rattle.varint_core.proofs.Bounds.{high_fits}
use Rattle.varint_core.proofs.long_varint.Goals as goal

pub overflow_add-result-then-byte-lt128 : goal.overflow_add-result-then-byte-lt128
overflow_add-result-then-byte-lt128 c =
    let h : c.loop-k.high < 72057594037927936 = high_fits _ _ c.loop-k.invariant.2 c.loop-k.invariant.1 in search (rules, h)

pub overflow_mul-high : goal.overflow_mul-high
overflow_mul-high c =
    let h : c.loop-k.high < 72057594037927936 = high_fits _ _ c.loop-k.invariant.2 c.loop-k.invariant.1 in search (rules, h)

pub overflow_add-high : goal.overflow_add-high
overflow_add-high c =
    let h : c.loop-k.high < 72057594037927936 = high_fits _ _ c.loop-k.invariant.2 c.loop-k.invariant.1 in search (rules, h)
