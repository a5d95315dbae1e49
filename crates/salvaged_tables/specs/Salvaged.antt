-- What the table rows of a schema give (docs/FORMAT.md, "Tables that are not built" and "Keys and clashes";
-- docs/TEXTS.md, "The report").
use Rattle.std.specs.Prelude.{◌≡◌, ℕ, if◌then◌else◌, None, List, [], ◌∷◌, ◌++◌, length, map, drop, Vec}
use Rattle.std.specs.declared.alloc.Global.{Global}
use Rattle.std.specs.List.{AllByRecursion, IsDistinct, flat_map}
use Rattle.db_builder.specs.Valid.{IsTable}
use Rattle.page_walk.specs.Cells.{Outcome, Row, row_of}
use Rattle.raw_schema.specs.declared.rows.SchemaRow.{SchemaRow}
use Rattle.schema_texts.specs.Readings.{is_table}
use Rattle.schema_texts.specs.declared.readings.TableReading.{TableReading}
use Rattle.table_shape.specs.Names.{same_name}
use Rattle.table_shape.specs.Seen.{shape_seen}
use Rattle.table_shape.specs.declared.rows.OutRow.{OutRow}
use Rattle.table_shape.specs.declared.rows.OutTable.{OutTable}
use Rattle.tree_uses.specs.Trees.{Tree}
use Rattle.salvaged_tables.specs.declared.places.FailedEntry.{FailedEntry}
use Rattle.salvaged_tables.specs.declared.places.LostCell.{LostCell}
use Rattle.salvaged_tables.specs.declared.places.Placed.{Placed}
use Rattle.salvaged_tables.specs.declared.places.ScriptText.{ScriptText}
use Rattle.salvaged_tables.specs.declared.salvage.SalvagedTables.{SalvagedTables}
use Rattle.salvaged_tables.specs.Fates.{AreFates, Failed, StoredTable, TableFate, failed_of, fate_lines, fate_text, lost_of, table_of, text_of}

-- ---- the program's lists, as definitions see them

-- a row with its place, as it stands in a table
abbrev pub row_at : OutRow → Placed → Row
row_at o p = record {
  page = p.place.page;
  cell = p.place.cell;
  rowid = o.rowid;
  chain = p.chain.items;
  fields = o.fields.items;
}

-- rows with their places
abbrev pub rows_at : List OutRow → List Placed → List Row
rows_at [] places = []
rows_at (o ∷ rows) [] = []
rows_at (o ∷ rows) (p ∷ places) = row_at o p ∷ rows_at rows places

abbrev pub stored_table : OutTable → Vec Placed Global → StoredTable
stored_table t places = record {
  name = t.name;
  text = t.text;
  shape = shape_seen t.shape;
  rows = rows_at t.rows.items places.items;
}

-- tables with the places of their rows
abbrev pub stored_tables : List OutTable → List (Vec Placed Global) → List StoredTable
stored_tables [] places = []
stored_tables (t ∷ tables) [] = []
stored_tables (t ∷ tables) (p ∷ places) = stored_table t p ∷ stored_tables tables places

-- there is a place for each row of each table
abbrev pub HavePlaces : List OutTable → List (Vec Placed Global) → Type 0
HavePlaces tables places = map (λ (t : OutTable). length t.rows.items) tables
    ≡ map (λ (p : Vec Placed Global). length p.items) places

abbrev pub lost_seen : LostCell → ℕ × Row
lost_seen l = (l.root, row_of l.cell)

abbrev pub failed_seen : FailedEntry → Failed
failed_seen e = record {
  page = e.place.page;
  cell = e.place.cell;
  root = e.root;
  rowid = e.rowid;
  chain = e.chain.items;
  cause = e.cause;
}

-- ---- the whole

-- the text of the first of these
abbrev pub first_text : List TableFate → List ScriptText
first_text [] = []
first_text (f ∷ fates) = fate_text f

-- The texts of the script, row by row of the schema: that of an index, a view or a trigger, and that of a
-- table that is not built. The fates are those of the table rows.
abbrev pub script_of : List SchemaRow → List TableFate → List ScriptText
script_of [] fates = []
script_of (row ∷ rows) fates = if is_table row.kind
    then first_text fates ++ script_of rows (drop 1 fates)
    else text_of None row.sql ++ script_of rows fates

-- what the table rows with these fates give, each after the other
pub record AreSalvaged (rows : List SchemaRow) (fates : List TableFate) (v : SalvagedTables) : Type 0 where
  pub tables : stored_tables v.tables.items v.places.items ≡ flat_map table_of fates
  pub places : HavePlaces v.tables.items v.places.items
  pub lost : map lost_seen v.lost.items ≡ flat_map lost_of fates
  pub failed : map failed_seen v.failed.items ≡ flat_map failed_of fates
  pub script : v.script.items ≡ script_of rows fates
  pub lines : v.lines.items ≡ flat_map fate_lines fates

-- what the table rows with these readings, trees and turns give
pub record IsSalvage (rows : List SchemaRow) (rs : List TableReading) (trees : List Tree)
    (turns : List (List (ℕ × List Outcome))) (v : SalvagedTables) : Type 0 where
  pub fates : List TableFate
  pub are : AreFates rows rs trees turns fates
  pub salvaged : AreSalvaged rows fates v

-- tables that can be written: each can, and no two have one name
pub record AreValid (tables : List OutTable) : Type 0 where
  pub tables_are : AllByRecursion IsTable tables
  pub names : IsDistinct same_name (map (λ (t : OutTable). t.name) tables)
