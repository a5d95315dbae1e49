use Rattle.std.proofs.Common.{◌≡◌, ◌++◌, drop, map}
use Rattle.arrayvec.specs.ArrayVec.{array_vec_len}
use Rattle.table_shape.specs.Keys.{part_of}
use Rattle.table_shape.specs.Seen.{shape_seen}
use Rattle.db_builder.specs.Load.{place_of}
use Rattle.db_builder.proofs.places.places_of.Given as goal

abbrev pub invariant-loop-column : goal.invariant-loop-column
invariant-loop-column l =
    let s = shape_seen l.shape in
    (l.places.items ++ map (λ p. place_of p.spot) (map (part_of s) (drop l.column-index l.column-items)) ≡ map (λ p. place_of p.spot) (map (part_of s) l.column-items))
    × (array_vec_len l.places ≡ l.column-index)
