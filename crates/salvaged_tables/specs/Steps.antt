-- What each step adds while the rows of a schema are gone over.
use Rattle.std.specs.Prelude.{◌≡◌, ◌≤◌, ℕ, ◌+◌, List, [], ◌∷◌, ◌++◌, length, map, drop, Vec}
use Rattle.std.specs.declared.alloc.Global.{Global}
use Rattle.std.specs.List.{AllByRecursion, flat_map}
use Rattle.std.specs.Vec.Iter.{into_iter_items, into_iter_len}
use Rattle.page_walk.specs.Cells.{Outcome, Row}
use Rattle.raw_schema.specs.declared.rows.SchemaRow.{SchemaRow}
use Rattle.raw_schema.specs.Schema.{cells_in}
use Rattle.schema_texts.specs.Readings.{tables_from}
use Rattle.schema_texts.specs.declared.readings.Reading.{Reading}
use Rattle.schema_texts.specs.declared.readings.TableReading.{TableReading}
use Rattle.table_parts.specs.declared.parts.TablePart.{TablePart}
use Rattle.table_parts.specs.Laws.{lost_cells}
use Rattle.table_parts.specs.Parts.{IsPart}
use Rattle.table_shape.specs.declared.rows.OutRow.{OutRow}
use Rattle.table_shape.specs.declared.rows.OutTable.{OutTable}
use Rattle.tree_uses.specs.Trees.{tree_of, turns_of}
use Rattle.tree_uses.specs.declared.reads.TreeTurns.{TreeTurns}
use Rattle.tree_uses.specs.declared.walks.TreeUse.{TreeUse}
use Rattle.salvaged_tables.specs.declared.places.Placed.{Placed}
use Rattle.salvaged_tables.specs.declared.salvage.Left.{Left}
use Rattle.salvaged_tables.specs.declared.salvage.SalvagedTables.{SalvagedTables}
use Rattle.salvaged_tables.specs.Fates.{AreFates, StoredTable, TableFate, built_table, failed_of, fate_lines, fate_text, lost_of, part_text, table_of}
use Rattle.salvaged_tables.specs.Salvaged.{HavePlaces, failed_seen, lost_seen, rows_at, script_of, stored_tables}

-- ---- cells

-- each page has few enough cells to count them
abbrev pub AreFew : List (ℕ × List Outcome) → Type 0
AreFew turns = AllByRecursion (λ (t : ℕ × List Outcome). length t.1 ≤ 32768) turns

-- ---- a table

-- there is this row more, with its place
pub record GainsRow (row : Row) (rows : List OutRow) (places : List Placed) (new_rows : List OutRow)
    (new_places : List Placed) : Type 0 where
  pub gained : length rows ≡ length places → rows_at new_rows new_places ≡ rows_at rows places ++ row ∷ []
  pub placed : length rows ≡ length places → length new_rows ≡ length new_places

abbrev pub tables_in : SalvagedTables → List StoredTable
tables_in v = stored_tables v.tables.items v.places.items

abbrev pub HasPlaces : SalvagedTables → Type 0
HasPlaces v = HavePlaces v.tables.items v.places.items

-- there are these tables more, with places for their rows
pub record GainsTables (more : List StoredTable) (tables : List OutTable) (places : List (Vec Placed Global))
    (new_tables : List OutTable) (new_places : List (Vec Placed Global)) : Type 0 where
  pub gained : HavePlaces tables places
      → stored_tables new_tables new_places ≡ stored_tables tables places ++ more
  pub placed : HavePlaces tables places → HavePlaces new_tables new_places

abbrev pub Gained : List StoredTable → SalvagedTables → SalvagedTables → Type 0
Gained more old new = GainsTables more old.tables.items old.places.items new.tables.items new.places.items

-- what a part gives: a table or a text, and the cells that are no rows
pub record GainsPart (row : SchemaRow) (root : ℕ) (part : TablePart)
    (old new : SalvagedTables) : Type 0 where
  pub tables : Gained (built_table row part) old new
  pub lost : map lost_seen new.lost.items
      ≡ map lost_seen old.lost.items ++ map (λ (r : Row). (root, r)) (lost_cells part)
  pub script : new.script.items ≡ old.script.items ++ part_text row part
  pub failed : new.failed ≡ old.failed
  pub lines : new.lines ≡ old.lines

-- what a fate gives
pub record Gains (f : TableFate) (old new : SalvagedTables) : Type 0 where
  pub tables : Gained (table_of f) old new
  pub lost : map lost_seen new.lost.items ≡ map lost_seen old.lost.items ++ lost_of f
  pub failed : map failed_seen new.failed.items ≡ map failed_seen old.failed.items ++ failed_of f
  pub script : new.script.items ≡ old.script.items ++ fate_text f
  pub lines : new.lines.items ≡ old.lines.items ++ fate_lines f

abbrev pub fate_with : SchemaRow → Reading → List ℕ → List (ℕ × List Outcome) → TablePart → TableFate
fate_with row reading pages turns part = record {
  row = row;
  reading = reading;
  pages = pages;
  turns = turns;
  part = part;
}

-- what a table row gives, whatever it is built of
pub record GainsTable (row : SchemaRow) (reading : Reading) (pages : List ℕ)
    (turns : List (ℕ × List Outcome)) (old new : SalvagedTables) : Type 0 where
  pub part : TablePart
  pub part_is : IsPart reading (cells_in turns) part
  pub gains : Gains (fate_with row reading pages turns part) old new

-- ---- all rows

-- there is a tree for each reading that is left, and the turns that are left have few cells
pub record AreReady (trees : List TreeUse) (left : Left) : Type 0 where
  pub enough : left.number + into_iter_len left.readings ≤ length trees
  pub few : AllByRecursion AreFew (map turns_of (into_iter_items left.turns))

-- the rows in front of row i are gone over: those of tables have these fates, and what is left gives the rest
pub record AreSaved (rows : List SchemaRow) (rs : List TableReading) (trees : List TreeUse)
    (turns : List TreeTurns) (i : ℕ) (left : Left) (v : SalvagedTables) : Type 0 where
  pub fates : List TableFate
  pub are : (rest : List TableFate)
      → AreFates rows (into_iter_items left.readings) (map tree_of (drop left.number trees))
      (map turns_of (into_iter_items left.turns)) rest
      → AreFates rows rs (map tree_of trees) (map turns_of turns) (fates ++ rest)
  pub numbers : map (λ (r : TableReading). r.row) (into_iter_items left.readings)
      ≡ tables_from i (drop i rows)
  pub readings : into_iter_len left.readings ≡ length (into_iter_items left.readings)
  pub turns_left : into_iter_len left.turns ≡ length (into_iter_items left.turns)
  pub same_turns : length (into_iter_items left.turns) ≡ length (into_iter_items left.readings)
  pub same_trees : left.number + length (into_iter_items left.readings) ≡ length trees
  pub few : AllByRecursion AreFew (map turns_of (into_iter_items left.turns))
  pub tables : tables_in v ≡ flat_map table_of fates
  pub places : HasPlaces v
  pub lost : map lost_seen v.lost.items ≡ flat_map lost_of fates
  pub failed : map failed_seen v.failed.items ≡ flat_map failed_of fates
  pub script : (rest : List TableFate)
      → v.script.items ++ script_of (drop i rows) rest ≡ script_of rows (fates ++ rest)
  pub lines : v.lines.items ≡ flat_map fate_lines fates

-- one row more is gone over
abbrev pub Goes : SchemaRow → List TreeUse → Left → Left → SalvagedTables → SalvagedTables → Type 0
Goes row trees before after old new =
    (rows : List SchemaRow) (rs : List TableReading) (turns : List TreeTurns) (i : ℕ)
    → drop i rows ≡ row ∷ drop (i + 1) rows
    → AreSaved rows rs trees turns i before old → AreSaved rows rs trees turns (i + 1) after new
