-- A well-formed file in scope comes back whole (docs/FORMAT.md, "A well-formed file"; docs/ARCHITECTURE.md,
-- "Order of use").
use Rattle.std.specs.Prelude.{◌≡◌, ℕ, List, [], map}
use Rattle.std.specs.List.{flat_map, range_with_len}
use Rattle.raw_schema.specs.Schema.{bad_rows, noted, schema_notes}
use Rattle.table_fill.specs.Fates.{held}
use Rattle.salvaged_tables.specs.Fates.{AreFates, StoredTable, TableFate, failed_of, lost_of, table_of}
use Rattle.salvaged_tables.specs.Laws.{all_lost}
use Rattle.well_formed.specs.Database.{Database, TableRows}
use Rattle.well_formed.specs.Header.{file_in}
use Rattle.well_formed_uses.specs.Laws.{AreAll, IsUsed, LeavesNone}
use Rattle.round_trip.specs.Scope.{IsInScope}

-- a table that is stored, as a database has it
abbrev pub as_rows : StoredTable → TableRows
as_rows t = record { name = t.name; text = t.text; rows = map held t.rows }

-- the tables that are built are those of the database with their rows, and nothing else is found in their
-- trees: no cell is lost, and none is unread
pub record AreBack (db : Database) (fates : List TableFate) : Type 0 where
  pub tables : map as_rows (flat_map table_of fates) ≡ db.tables
  pub none_lost : all_lost fates ≡ []
  pub no_roots : flat_map lost_of fates ≡ []
  pub none_noted : flat_map (λ (x : TableFate). flat_map noted x.turns) fates ≡ []
  pub none_failed : flat_map failed_of fates ≡ []

-- the same of the whole file: each cell of the schema's tree is a row of the schema, and no page that is left
-- at the end has a shape
pub record ComesBack (bytes : List ℕ) (db : Database) (s : IsUsed bytes db) (fates : List TableFate)
    : Type 0 where
  pub back : AreBack db fates
  pub none_bad : bad_rows (file_in bytes) s.unused ≡ []
  pub none_unread : schema_notes (file_in bytes) s.unused ≡ []
  pub left : LeavesNone bytes db s

-- each well-formed file in scope comes back, where these are the fates of its table rows
abbrev pub FilesComeBack : Type 0
FilesComeBack = (bytes : List ℕ) (db : Database) (s : IsUsed bytes db) (fates : List TableFate)
    → IsInScope bytes db → AreFates s.rows s.readings s.tables s.turns fates → ComesBack bytes db s fates

-- the pages 1 to n are all pages
abbrev pub PagesAreAll : Type 0
PagesAreAll = (n : ℕ) → AreAll n (range_with_len 1 n)
