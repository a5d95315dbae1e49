use Rattle.std.proofs.Common.{◌≡◌, ◌≤◌, ◌+◌, ◌++◌}
use Rattle.arrayvec.specs.ArrayVec.{array_vec_len}
use Rattle.varint_core.specs.Shortest.{front_of}
use Rattle.varint_core.proofs.writing.bytes_of.Given as goal

-- the bytes so far and those that are left are all
abbrev pub invariant-bytes : goal.invariant-bytes
invariant-bytes l =
    (l.bytes.items ++ front_of l.left l.high ≡ front_of l.count l.high) × (array_vec_len l.bytes + l.left ≡ l.count) × (l.count ≤ 8)

abbrev pub decreases-bytes : goal.decreases-bytes
decreases-bytes l = l.left
