use Rattle.std.proofs.Common.{◌≡◌, drop, map}
use Rattle.std.specs.List.{list_any}
use Rattle.table_shape.specs.Entries.{is_field}
use Rattle.table_shape.specs.Keys.{part_of}
use Rattle.table_shape.specs.Seen.{shape_seen}
use Rattle.db_builder.proofs.places.has_field.Given as goal

abbrev pub invariant-loop-column : goal.invariant-loop-column
invariant-loop-column l =
    list_any (λ p. is_field l.field p.spot) (map (part_of (shape_seen l.shape)) (drop l.column-index l.column-items))
    ≡ list_any (λ p. is_field l.field p.spot) (map (part_of (shape_seen l.shape)) l.column-items)
