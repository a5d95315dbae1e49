use Rattle.std.proofs.Common.{◌≡◌, ◌≤◌, ◌+◌, ◌++◌, drop, filter, map}
use Rattle.arrayvec.specs.ArrayVec.{array_vec_len}
use Rattle.table_shape.specs.Entries.{follows}
use Rattle.table_shape.specs.Keys.{part_of}
use Rattle.table_shape.specs.Seen.{shape_seen}
use Rattle.db_builder.specs.Load.{place_of}
use Rattle.db_builder.proofs.places.add_followers.Given as goal

abbrev pub invariant-loop-column : goal.invariant-loop-column
invariant-loop-column l =
    let s = shape_seen l.shape in
    let own = map (part_of s) l.key.columns.items in
    (l.places.items ++ map (λ p. place_of p.spot) (filter (λ p. follows own p.spot) (map (part_of s) (drop l.column-index l.column-items)))
    ≡ l.initial.places.items ++ map (λ p. place_of p.spot) (filter (λ p. follows own p.spot) (map (part_of s) l.column-items)))
    × (array_vec_len l.places ≤ 2000 + l.column-index)
