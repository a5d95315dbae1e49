use Rattle.std.proofs.Common.{◌≡◌, drop, map}
use Rattle.std.specs.List.{list_any}
use Rattle.table_shape.specs.Shape.{is_real, key_seen}
use Rattle.table_shape.proofs.places.any_key_real.Given as goal

abbrev pub invariant-loop-key : goal.invariant-loop-key
invariant-loop-key l = list_any (λ key. list_any (is_real l.columns) key.columns) (map key_seen (drop l.key-index l.keys)) ≡ list_any (λ key. list_any (is_real l.columns) key.columns) (map key_seen l.keys)
