-- What becomes of a table of the schema (docs/FORMAT.md, "Tables that are not built" and "Keys and clashes").
use Rattle.std.specs.Prelude.{◌≡◌, Some, List, map}
use Rattle.table_shape.specs.Keys.{Keys, keys_of}
use Rattle.table_shape.specs.Seen.{shape_seen}
use Rattle.page_walk.specs.declared.outcomes.Place.{Place}
use Rattle.page_walk.specs.Cells.{Row, row_of}
use Rattle.table_fill.specs.Chosen.{AreSorted, left_seen}
use Rattle.table_fill.specs.Fates.{first_unordered}
use Rattle.report_text.specs.declared.causes.UnreadCause.{UnreadCause}
use Rattle.report_text.specs.declared.causes.UnreadCause.TheVariants as causes
use Rattle.schema_texts.specs.declared.readings.Reading.{Reading}
use Rattle.schema_texts.specs.declared.readings.Reading.TheVariants as readings
use Rattle.table_parts.specs.declared.parts.TablePart.{TablePart}
use Rattle.table_parts.specs.declared.parts.TablePart.TheVariants.{Built, Unread}

-- a cell that fits has a key field that cannot be ordered: the first is told, and all cells are kept
pub record IsUnordered (t : Keys) (cells : List Row) (cause : UnreadCause) (given : List Row) : Type 0 where
  pub place : Place
  pub cause_is : cause ≡ causes.Unordered place
  pub first : first_unordered t cells ≡ Some place
  pub given_are : given ≡ cells

-- a table with a shape is built of the rows among these cells, and the others have their fate; or a cell that fits cannot
-- be ordered, and the table is not built. A table that is not built keeps all cells.
abbrev pub IsPart : Reading → List Row → TablePart → Type 0
IsPart (readings.Shape s) cells (Built shape rows left) =
    (shape_seen shape ≡ shape_seen s) × AreSorted (keys_of (shape_seen s)) cells (map row_of rows.items) (map left_seen left.items)
IsPart (readings.Shape s) cells (Unread cause given) =
    IsUnordered (keys_of (shape_seen s)) cells cause (map row_of given.items)
IsPart (readings.Unread why kind) cells (Built shape rows left) = ⊥
IsPart (readings.Unread why kind) cells (Unread cause given) = (cause ≡ why) × (map row_of given.items ≡ cells)
