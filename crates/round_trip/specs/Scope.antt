-- Well-formed files that come back whole (docs/FORMAT.md, "A well-formed file").
use Rattle.std.specs.Prelude.{◌≡◌, ◌≤◌, ℕ, List, length}
use Rattle.std.specs.List.{AllByRecursion}
use Rattle.page_access.specs.Files.{max_input}
use Rattle.create_reader.specs.declared.faults.CreateFault.{CreateFault}
use Rattle.create_reader.specs.declared.faults.CreateFault.TheVariants.{Memory}
use Rattle.create_reader.specs.Outcome.{HasFault}
use Rattle.well_formed.specs.Database.{Database, TableRows}

-- a text has no fault, but that memory may run out
abbrev pub IsFaultless : List ℕ → Type 0
IsFaultless text = (fault : CreateFault) → HasFault text fault → fault ≡ Memory

-- the file has at most 2^28 bytes, and no text of a table that is not virtual has a fault
pub record IsInScope (bytes : List ℕ) (db : Database) : Type 0 where
  pub few : length bytes ≤ max_input
  pub texts : AllByRecursion (λ (t : TableRows). IsFaultless t.text) db.tables
