use Rattle.std.proofs.Common.{◌≡◌, ◌<◌, ◌≤◌, ◌^◌, drop}
use Rattle.varint_core.specs.Varint.{varint_from}
use Rattle.varint_core.proofs.long_varint.Given as goal

-- the bytes read so far and the rest give what all bytes give
abbrev pub invariant-loop-k : goal.invariant-loop-k
invariant-loop-k l = (varint_from l.k l.high (drop l.k l.bytes) ≡ varint_from 0 0 l.bytes) × (l.k ≤ 8) × (l.high < 128 ^ l.k)
