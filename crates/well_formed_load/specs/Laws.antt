-- A well-formed file spells a database that is not too large to be written (docs/FORMAT.md, "A well-formed file" and
-- "Layout of a written file").
use Rattle.std.specs.Prelude.{◌≡◌, ◌<◌, ◌≤◌, ℕ, ◌*◌, List, length}
use Rattle.page_access.specs.Files.{max_input}
use Rattle.db_builder.specs.declared.databases.OutDb.{OutDb}
use Rattle.db_builder.specs.Load.{load}
use Rattle.db_builder.specs.Valid.{IsValid}
use Rattle.layout_laws.specs.Written.{database_of}
use Rattle.well_formed.specs.Spells.{Spells}

-- the load is below eight for each byte of the file, and nothing where the file has none
pub record HasSmallLoad (bytes : List ℕ) (db : OutDb) : Type 0 where
  pub below : 1 ≤ length bytes → load db < 8 * length bytes
  pub none : length bytes ≡ 0 → load db ≡ 0

-- so it is with each database that can be written, and each file of at most 2^28 bytes that spells it
abbrev pub SmallLoad : Type 0
SmallLoad = (bytes : List ℕ) (db : OutDb) → IsValid db → length bytes ≤ max_input → Spells bytes (database_of db)
    → HasSmallLoad bytes db
