-- What a recovery gives of a well-formed input (docs/FORMAT.md, "A well-formed file").
use Rattle.std.specs.Prelude.{◌≡◌, ℕ, false, Option, Some, None, List, []}
use Rattle.layout_laws.specs.Written.{database_of}
use Rattle.well_formed.specs.Database.{Database}
use Rattle.well_formed.specs.Spells.{Spells}
use Rattle.round_trip.specs.Scope.{IsInScope}
use Rattle.salvage_core.specs.declared.gathered.Gathered.{Gathered}
use Rattle.salvage_core.specs.declared.options.Options.{Options}

-- neither a page size nor reserved bytes are given, and the freelist is looked at
pub record ArePlain (o : Options) : Type 0 where
  pub page_size : o.page_size ≡ None
  pub reserved : o.reserved ≡ None
  pub freelist : o.freelist_corrupt ≡ false

-- the database is written again; no cell is lost, none of a table's tree fails, and there is no orphan tree
pub record IsBack (d : Database) (g : Gathered) : Type 0 where
  pub database : database_of g.db ≡ d
  pub none_lost : g.lost ≡ 0
  pub no_orphans : g.orphans.items ≡ []
  pub none_failed : g.failed.items ≡ []

-- so it is of an input that spells a database and is in scope
abbrev pub ComesBack : Options → List ℕ → Gathered → Type 0
ComesBack o all g = (d : Database) → ArePlain o → Spells all d → IsInScope all d → IsBack d g
