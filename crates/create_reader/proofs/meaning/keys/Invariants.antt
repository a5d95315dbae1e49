use Rattle.std.proofs.Common.{◌≡◌, ◌++◌, drop, map}
use Rattle.create_reader.specs.Meaning.{keys_from}
use Rattle.create_reader.specs.Views.{constraint_seen, seen}
use Rattle.table_shape.specs.Shape.{key_seen}
use Rattle.std.proofs.Common.{◌+◌}
use Rattle.create_reader.proofs.meaning.keys.Given as goal

abbrev pub invariant-loop-i : goal.invariant-loop-i
invariant-loop-i l = map key_seen l.keys.items ++ keys_from (seen l.table) (l.i + 1) (map (λ k. constraint_seen l.table.columns.items k.now) (drop l.i l.taken)) ≡ keys_from (seen l.table) 1 (map (λ k. constraint_seen l.table.columns.items k.now) l.taken)
