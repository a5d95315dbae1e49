-- What holds of all well-formed files (docs/FORMAT.md, "A well-formed file").
use Rattle.std.specs.Prelude.{◌≡◌, ℕ, List}
use Rattle.well_formed.specs.Database.{Database}
use Rattle.well_formed.specs.Spells.{Spells}

-- a list of bytes spells at most one database
abbrev pub OneDatabase : Type 0
OneDatabase = (bytes : List ℕ) (db other : Database) → Spells bytes db → Spells bytes other → db ≡ other
