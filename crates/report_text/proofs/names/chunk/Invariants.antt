use Rattle.std.proofs.Common.{◌≡◌, ◌≤◌, ◌*◌, take}
use Rattle.std.specs.List.{flat_map}
use Rattle.arrayvec.specs.ArrayVec.{array_vec_len}
use Rattle.report_text.specs.Names.{esc_byte}
use Rattle.report_text.proofs.names.chunk.Given as goal

-- the bytes before this one stand in the line
abbrev pub invariant-loop-byte : goal.invariant-loop-byte
invariant-loop-byte l = (l.line.items ≡ flat_map esc_byte (take l.byte-index l.bytes)) × (array_vec_len l.line ≤ 3 * l.byte-index)
