-- The listing of the schema (docs/TEXTS.md, "Listings").
use Rattle.std.specs.Prelude.{ℕ, List, ◌++◌}
use Rattle.std.specs.List.{flat_map, range_with_len}
use Rattle.page_access.specs.Pages.{File}
use Rattle.page_walk.specs.Cells.{Row}
use Rattle.raw_schema.specs.Schema.{bad_rows, schema_rows}
use Rattle.raw_schema.specs.declared.rows.SchemaRow.{SchemaRow}
use Rattle.report_text.specs.Lines.{line_text}
use Rattle.report_text.specs.declared.ReportLine.TheVariants as lines

-- the line of a row of the schema
abbrev pub row_line : SchemaRow → List ℕ
row_line row = line_text (lines.Row row.place.page row.place.cell row.kind row.name row.tbl row.root row.sql)

-- the line of a readable cell that is no row of the schema
abbrev pub bad_line : Row → List ℕ
bad_line row = line_text (lines.BadRow row.page row.cell)

-- all rows of the schema, and then all cells that are not
abbrev pub lines_text : List SchemaRow → List Row → List ℕ
lines_text rows bad = flat_map row_line rows ++ flat_map bad_line bad

-- the listing of the schema
unfoldable pub schema_text : File → List ℕ
schema_text f = lines_text (schema_rows f (range_with_len 1 f.pages)) (bad_rows f (range_with_len 1 f.pages))
