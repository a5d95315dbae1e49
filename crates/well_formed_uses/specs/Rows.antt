-- The rows of the schema of a well-formed file as they are found in it (docs/FORMAT.md, "The schema").
use Rattle.std.specs.Prelude.{List, map}
use Rattle.raw_schema.specs.declared.rows.SchemaRow.{SchemaRow}
use Rattle.well_formed.specs.Stored.{no_place}

-- a row of the schema wherever it stands
abbrev pub unplaced : SchemaRow → SchemaRow
unplaced row = record row { place = no_place }

abbrev pub all_unplaced : List SchemaRow → List SchemaRow
all_unplaced rows = map unplaced rows
