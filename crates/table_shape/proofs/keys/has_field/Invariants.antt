use Rattle.std.proofs.Common.{◌≡◌, drop}
use Rattle.std.specs.List.{list_any}
use Rattle.table_shape.specs.Entries.{is_field}
use Rattle.table_shape.proofs.keys.has_field.Given as goal

abbrev pub invariant-loop-part : goal.invariant-loop-part
invariant-loop-part l = list_any (λ p. is_field l.field p.spot) (drop l.part-index l.parts) ≡ list_any (λ p. is_field l.field p.spot) l.parts
