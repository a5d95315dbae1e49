-- Each cell of a table is one of its rows or lost, once.
use Rattle.std.proofs.Common.{List, ◌++◌, map, subst, sym}
use Rattle.std.specs.List.Sorted.{IsPermutation}
use Rattle.std.proofs.lemmas.List.Sorted.{IsPermutation-refl}
use Rattle.page_walk.specs.Cells.{Row}
use Rattle.table_shape.specs.Keys.{keys_of}
use Rattle.table_shape.specs.Seen.{shape_seen}
use Rattle.table_fill.specs.Chosen.{left_seen}
use Rattle.table_fill.specs.Fates.{Left, rows_of, sorted_of}
use Rattle.table_fill.proofs.Good.{each_once}
use Rattle.schema_texts.specs.declared.readings.Reading.TheVariants as readings
use Rattle.table_parts.specs.declared.parts.TablePart.TheVariants.{Built, Unread}
use Rattle.table_parts.specs.Laws.{EachCellOnce}

pub each_cell : EachCellOnce
each_cell (readings.Shape s) cells (Built shape rows left) is =
    subst (λ (kept : List Row). IsPermutation cells (kept ++ map (λ (l : Left). l.row) (map left_seen left.items))) (sym is.1.rows_are)
    (subst (λ (others : List Left). IsPermutation cells (rows_of (keys_of (shape_seen s)) (sorted_of (keys_of (shape_seen s)) cells) ++ map (λ (l : Left). l.row) others)) (sym is.1.left_are) (each_once (keys_of (shape_seen s)) cells))
each_cell (readings.Shape s) cells (Unread cause given) is = subst (IsPermutation cells) (sym is.given_are) (IsPermutation-refl cells)
each_cell (readings.Unread why kind) cells (Built shape rows left) is = absurd is
each_cell (readings.Unread why kind) cells (Unread cause given) is = subst (IsPermutation cells) (sym is.1) (IsPermutation-refl cells)
