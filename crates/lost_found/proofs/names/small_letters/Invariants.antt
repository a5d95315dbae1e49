use Rattle.std.proofs.Common.{◌≡◌, ◌++◌, drop}
use Rattle.std.specs.Str.{str_to_ascii_lowercase}
use Rattle.lost_found.proofs.names.small_letters.Given as goal

abbrev pub invariant-loop-byte : goal.invariant-loop-byte
invariant-loop-byte l = l.letters.items ++ str_to_ascii_lowercase (drop l.byte-index l.name) ≡ str_to_ascii_lowercase l.name
