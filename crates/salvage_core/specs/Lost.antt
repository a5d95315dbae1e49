-- The table of the cells that no table has (docs/FORMAT.md, "The table of lost cells"; docs/TEXTS.md, "The report").
use Rattle.std.specs.Prelude.{◌≡◌, ℕ, false, List, [], ◌∷◌, ◌++◌, length, map, Vec}
use Rattle.std.specs.declared.alloc.Global.{Global}
use Rattle.page_walk.specs.Cells.{Row}
use Rattle.raw_schema.specs.declared.rows.SchemaRow.{SchemaRow}
use Rattle.report_text.specs.declared.ReportLine.{ReportLine}
use Rattle.report_text.specs.declared.ReportLine.TheVariants as lines
use Rattle.salvaged_tables.specs.Fates.{StoredTable}
use Rattle.salvaged_tables.specs.Steps.{GainsTables}
use Rattle.salvaged_tables.specs.declared.places.Placed.{Placed}
use Rattle.table_shape.specs.Names.{is_named}
use Rattle.table_shape.specs.declared.rows.OutTable.{OutTable}
use Rattle.lost_found.specs.Lost.{lost_of}

-- the names of the rows of a schema
abbrev pub schema_names : List SchemaRow → List (List ℕ)
schema_names rows = map (λ (r : SchemaRow). r.name) rows

-- the table of lost cells, where there are any
abbrev pub lost_tables : List ℕ → List (List ℕ) → List (ℕ × Row) → List StoredTable
lost_tables base names [] = []
lost_tables base names (cell ∷ cells) = lost_of base names (cell ∷ cells) ∷ []

-- a name that no row of the schema has is that of no table
abbrev pub AreOfSchema : List SchemaRow → List OutTable → Type 0
AreOfSchema rows tables = (name : List ℕ) → is_named name (schema_names rows) ≡ false
    → is_named name (map (λ (t : OutTable). t.name) tables) ≡ false

-- its line
abbrev pub lost_line : StoredTable → ReportLine
lost_line t = lines.Lost t.name (length t.rows)

abbrev pub lost_lines : List StoredTable → List ReportLine
lost_lines tables = map lost_line tables

-- there are these tables more, with places for their rows, and their lines
pub record GainsLost (more : List StoredTable) (tables : List OutTable) (places : List (Vec Placed Global))
    (lines : List ReportLine) (new_tables : List OutTable) (new_places : List (Vec Placed Global))
    (new_lines : List ReportLine) : Type 0 where
  pub tables_are : GainsTables more tables places new_tables new_places
  pub lines_are : new_lines ≡ lines ++ lost_lines more
