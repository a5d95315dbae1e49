use Rattle.std.proofs.Common.{◌≡◌, ◌++◌, drop}
use Rattle.create_reader.specs.Names.{unquoted}
use Rattle.std.proofs.Common.{false}
use Rattle.create_reader.proofs.names.unquoted.Given as goal

abbrev pub invariant-loop-byte : goal.invariant-loop-byte
invariant-loop-byte l = l.found.items ++ unquoted l.quote l.second (drop l.byte-index l.bytes) ≡ unquoted l.quote false l.bytes
