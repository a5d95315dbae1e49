use Rattle.std.proofs.Common.{◌≡◌, drop}
use Rattle.std.specs.List.{list_any}
use Rattle.table_shape.specs.Shape.{is_real}
use Rattle.table_shape.proofs.places.any_real.Given as goal

abbrev pub invariant-loop-number : goal.invariant-loop-number
invariant-loop-number l = list_any (is_real l.columns) (drop l.number-index l.numbers) ≡ list_any (is_real l.columns) l.numbers
