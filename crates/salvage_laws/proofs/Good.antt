-- The rows of stored tables fit them, rise, and do not clash.
use Rattle.std.proofs.Common.{◌≡◌, ℕ, Bool, List, [], ◌∷◌, map, refl, sym, ap, subst}
use Rattle.std.specs.List.{AllByRecursion, flat_map}
use Rattle.page_walk.specs.Cells.{Outcome, Row, row_of}
use Rattle.page_walk.proofs.Going.{all_append}
use Rattle.raw_schema.specs.declared.rows.SchemaRow.{SchemaRow}
use Rattle.raw_schema.specs.Schema.{cells_in}
use Rattle.schema_texts.specs.declared.readings.Reading.{Reading}
use Rattle.schema_texts.specs.declared.readings.Reading.TheVariants as readings
use Rattle.schema_texts.specs.declared.readings.TableReading.{TableReading}
use Rattle.table_shape.specs.Keys.{AreRows, StoredRow, keys_of}
use Rattle.table_shape.specs.Seen.{shape_seen}
use Rattle.table_shape.specs.Shape.{IsShape, Shape}
use Rattle.table_fill.specs.Chosen.{AreSorted, left_seen}
use Rattle.table_fill.specs.Fates.{Left, held}
use Rattle.table_fill.proofs.Good.{rows_good}
use Rattle.table_parts.specs.declared.parts.TablePart.{TablePart}
use Rattle.table_parts.specs.declared.parts.TablePart.TheVariants.{Built, Unread}
use Rattle.table_parts.specs.Parts.{IsPart}
use Rattle.tree_uses.specs.Trees.{Tree}
use Rattle.salvaged_tables.specs.Fates.{AreFates, TableFate, built_table, stored_row, table_of}
use Rattle.salvaged_tables.proofs.Bare.{stored, stored_are_rows}
use Rattle.salvage_laws.specs.Laws.{IsGood, StoredAreGood}

-- what keys see of stored rows
held_stored : (b : Bool) (rows : List Row) → map (stored b) (map held rows) ≡ map held (map (stored_row b) rows)
held_stored b [] = refl
held_stored b (r ∷ rows) = ap (λ (rs : List StoredRow). stored b (held r) ∷ rs) (held_stored b rows)

good_rows : (s : Shape) (cells rows : List Row) (left : List Left) → IsShape s → AreSorted (keys_of s) cells rows left
    → AreRows (keys_of s) (map held (map (stored_row s.without_rowid) rows))
good_rows s cells rows left valid are =
    subst (AreRows (keys_of s)) (held_stored s.without_rowid rows)
    (stored_are_rows s (map held rows) valid
    (subst (λ (rs : List Row). AreRows (keys_of s) (map held rs)) (sym are.rows_are) (rows_good (keys_of s) cells are.ordered)))

good_part : (row : SchemaRow) (reading : Reading) (cells : List Row) (part : TablePart) → IsPart reading cells part
    → AllByRecursion IsGood (built_table row part)
good_part row (readings.Shape s) cells (Built shape rows left) is = (
  good_rows (shape_seen shape) cells (map row_of rows.items) (map left_seen left.items) shape.valid
      (subst (λ (x : Shape). AreSorted (keys_of x) cells (map row_of rows.items) (map left_seen left.items)) (sym is.0) is.1),
  tt,
)
good_part row (readings.Shape s) cells (Unread cause given) is = tt
good_part row (readings.Unread why kind) cells (Built shape rows left) is = absurd is
good_part row (readings.Unread why kind) cells (Unread cause given) is = tt

good_fates : (rows : List SchemaRow) (rs : List TableReading) (tables : List Tree) (turns : List (List (ℕ × List Outcome)))
    (fates : List TableFate) → AreFates rows rs tables turns fates → AllByRecursion IsGood (flat_map table_of fates)
good_fates rows [] [] [] [] are = tt
good_fates rows (r ∷ rs) (t ∷ tables) (ts ∷ turns) (f ∷ fates) are =
    all_append IsGood (table_of f) (flat_map table_of fates) (good_part f.row r.reading (cells_in ts) f.part are.0.part_is)
    (good_fates rows rs tables turns fates are.1)
good_fates rows rs tables turns fates are = absurd are

pub stored_are_good : StoredAreGood
stored_are_good f u trunk fates orphans cells s = good_fates s.rows s.readings s.tables s.turns fates s.fates_are
