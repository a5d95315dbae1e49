-- What holds of every written file (docs/FORMAT.md, "Layout of a written file" and "A well-formed file").
use Rattle.std.specs.Prelude.{◌≡◌, ◌≤◌, ℕ, ◌*◌, ◌^◌, IsTrue, length}
use Rattle.page_access.specs.Pages.{is_page_size}
use Rattle.db_builder.specs.declared.databases.OutDb.{OutDb}
use Rattle.db_builder.specs.Layout.{last_page, layout}
use Rattle.db_builder.specs.Load.{load}
use Rattle.db_builder.specs.Trees.{trees_of}
use Rattle.db_builder.specs.Valid.{IsValid}
use Rattle.well_formed.specs.Database.{Database}
use Rattle.well_formed.specs.Spells.{Spells}
use Rattle.layout_laws.specs.Written.{IsTyped, database_of}

-- a written file has whole pages, up to the last one
abbrev pub LayoutIsWhole : Type 0
LayoutIsWhole = (size : ℕ) (db : OutDb) → IsTrue (is_page_size size)
    → length (layout size db) ≡ last_page size (trees_of db.tables.items) * size

-- the file of a database that can be written, and is not too large, spells this database
abbrev pub LayoutSpells : Type 0
LayoutSpells = (size : ℕ) (db : OutDb) → IsTrue (is_page_size size) → IsTyped db → IsValid db
    → load db ≤ 2 ^ 35 → Spells (layout size db) (database_of db)

-- and no other
abbrev pub LayoutSpellsOne : Type 0
LayoutSpellsOne = (size : ℕ) (db : OutDb) (other : Database) → IsTrue (is_page_size size) → IsTyped db → IsValid db
    → load db ≤ 2 ^ 35 → Spells (layout size db) other → other ≡ database_of db
